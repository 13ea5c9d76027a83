use Rattle.std.proofs.Common.{◌∙◌, ap, length, refl}
use Rattle.std.proofs.lemmas.List.{length-replicate}
use Rattle.xet_serve_command.specs.declared.near_client.NearClient.{NearClient}
use Rattle.xet_get_command.specs.GetOptions.{lanes_of}
use Rattle.xet_outside.specs.Told.{ClientTold}
use Rattle.xet_serve_command.specs.steps.Sessions.{new_client}
use Rattle.xet_serve_command.proofs.Clients.{all_still, are_calm, none_tells, over_store}
use Rattle.xet_serve_command.proofs.Sessions.{ended}
use Rattle.xet_serve_command.proofs.session.serve_over.Goals as goal

pub returns : goal.returns
returns g c =
    let told : NearClient → ClientTold = λ x. new_client x.store.now in
    let s = c.args.store.now in
    let o = c.args.options.now in
    let law = c.calm_sessions_reply.ensures in
    ended (record { reply = law.reply; end = law.end; begin = law.begin }) o s _ _ _ refl
    (over_store s (lanes_of o) _ c.recall_valid.ensures c.requires.clients) (none_tells s (g.K.ChunkCache.told c.args.cache.now) c.requires.cache)
    (ap length c.requires.clients ∙ length-replicate (lanes_of o) (new_client s))
    (are_calm _ _ (all_still told (λ x. refl) (λ x. refl) _) (all_still told (λ x. refl) (λ x. refl) _))
    c.run_over-answer.result c.run_over-answer.ensures _ c.end.result c.end.ensures
