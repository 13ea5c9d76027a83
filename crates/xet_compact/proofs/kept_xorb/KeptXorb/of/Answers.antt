use Rattle.std.proofs.Common.{◌≡◌, ◌∙◌, ap, sym, subst, List, ℕ, ◌<◌, ◌^◌, length, All}
use Rattle.xet_held.proofs.CallerLemmas.{All-kept}
use Rattle.xet_compact.proofs.ShortChunks.{chunks_short}
use Rattle.xet_held.specs.Held.{is_reached, passing}
use Rattle.xet_compact.proofs.kept_xorb.KeptXorb.of.Goals as goal

pub kept_hash-requires : goal.kept_hash-requires
kept_hash-requires c =
    let p = is_reached c.args.reach.now in
    let same = c.as_slice-2.ensures ∙ c.in_ok-chunks.ensures.chunks
    ∙ ap (λ (cs : List (List ℕ)). passing (is_reached c.ends.result.now) cs) c.as_slice.ensures
    ∙ ap (λ (es : List ℕ). passing (is_reached es) c.args.xorb.now.chunks) c.ends.ensures in
    subst (λ (cs : List (List ℕ)). All (λ b. length b < 2 ^ 32) cs) (sym same) (All-kept p (λ (b : List ℕ). length b < 2 ^ 32)
    0 c.args.xorb.now.chunks (chunks_short c.args.xorb.now c.requires.valid))
