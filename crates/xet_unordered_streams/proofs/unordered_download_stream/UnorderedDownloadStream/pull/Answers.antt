use Rattle.std.proofs.Common.{◌≡◌, ◌-◌, ℕ, true, List, [], ◌∷◌, ◌++◌, ◌∙◌, ap, refl, subst, sym, Some, None, Ok, Err}
use Rattle.std.specs.Prelude.{map}
use Rattle.xet_stream_rules.specs.declared.step.Step.TheVariants.{Pending, Ready}
use Rattle.xet_stream_rules.specs.Pulls.{Answer, PullCall}
use Rattle.xet_stream_rules.specs.Unordered.{UnorderedView}
use Rattle.xet_streams.specs.Places.{IsPlaced}
use Rattle.xet_unordered_streams.specs.Items.{IsCaught}
use Rattle.xet_unordered_streams.specs.Placing.{IsPlacing}
use Rattle.xet_unordered_streams.specs.steps.Pulling.{IsFreeCaught, OrderedCall}
use Rattle.xet_unordered_streams.proofs.Ordered.{as_none, as_pending, as_piece, ordered_error, ordered_gives, ordered_none, ordered_pending, ordered_piece, pending_caught, pending_goes_on}
use Rattle.xet_unordered_streams.proofs.unordered_download_stream.UnorderedDownloadStream.pull.Goals as goal

pub invariant_of-self : goal.invariant_of-self
invariant_of-self g c =
    let i = c.self.inside in
    let cs = map g.C.Client.told c.args.clients.now in
    let ds = map g.C.Client.told c.pull.new.clients in
    let k = g.K.ChunkCache.told c.args.cache.now in
    let l = g.K.ChunkCache.told c.pull.new.cache in
    let caught = subst IsFreeCaught (sym c.self.view_is) c.requires in
    let s = c.in-Ok-Ready-Some in
    let call = as_piece (λ (x : Answer). PullCall i.stepper c.pull.new.self cs ds k l x) s.field-0 s.field-0-0 s.piece
    s.field-0-is s.field-0-0-is s.ensures.call in
    let placed = as_piece (λ (x : Answer). IsPlaced c.pull.new.self.events c.pull.new.start x) s.field-0 s.field-0-0
    s.piece s.field-0-is s.field-0-0-is s.ensures.placed in
    let place = c.saturating_sub-place.result in
    let at : place ≡ c.pull.new.start - i.stepper.setup.range.start =
    c.saturating_sub-place.ensures ∙ ap (λ (n : ℕ). c.pull.new.start - n) c.range_start-from.ensures in
    let pushed : c.push_reserved.new.self.items ≡ i.delivered.items ++ place ∷ [] =
    c.push_reserved.ensures.items ∙ ap (λ (xs : List ℕ). xs ++ place ∷ []) c.reserve.ensures.items in
    subst (λ (xs : List ℕ). IsPlacing c.pull.new.self xs i.early) (sym pushed)
    (ordered_piece i.stepper c.pull.new.self i.delivered.items i.early i.ended c.self.invariant caught cs ds k l s.piece
    call c.pull.new.start placed place at)

pub invariant_of-self-in-Ok-Ready-None : goal.invariant_of-self-in-Ok-Ready-None
invariant_of-self-in-Ok-Ready-None g c =
    let i = c.self.inside in
    let cs = map g.C.Client.told c.args.clients.now in
    let ds = map g.C.Client.told c.pull.new.clients in
    let k = g.K.ChunkCache.told c.args.cache.now in
    let l = g.K.ChunkCache.told c.pull.new.cache in
    let caught = subst IsFreeCaught (sym c.self.view_is) c.requires in
    let s = c.in-Ok-Ready-None in
    subst (λ (xs : List ℕ). IsPlacing c.pull.new.self xs i.early) (sym c.reserve.ensures.items)
    (ordered_none i.stepper c.pull.new.self i.delivered.items i.early i.ended c.self.invariant caught cs ds k l
    (as_none (λ (x : Answer). PullCall i.stepper c.pull.new.self cs ds k l x) s.field-0 s.field-0-0 s.field-0-is
    s.field-0-0-is s.ensures.call))

pub invariant_of-self-in-Ok-Pending : goal.invariant_of-self-in-Ok-Pending
invariant_of-self-in-Ok-Pending g c =
    let i = c.self.inside in
    let cs = map g.C.Client.told c.args.clients.now in
    let ds = map g.C.Client.told c.pull.new.clients in
    let k = g.K.ChunkCache.told c.args.cache.now in
    let l = g.K.ChunkCache.told c.pull.new.cache in
    let caught = subst IsFreeCaught (sym c.self.view_is) c.requires in
    let s = c.in-Ok-Pending in
    subst (λ (xs : List ℕ). IsPlacing c.pull.new.self xs i.early) (sym c.reserve.ensures.items)
    (ordered_pending i.stepper c.pull.new.self i.delivered.items i.early i.ended c.self.invariant caught cs ds k l
    (as_pending (λ (x : Answer). PullCall i.stepper c.pull.new.self cs ds k l x) s.field-0 s.field-0-is s.ensures.call))

pub invariant_of-self-in-Err : goal.invariant_of-self-in-Err
invariant_of-self-in-Err g c =
    let i = c.self.inside in
    let cs = map g.C.Client.told c.args.clients.now in
    let ds = map g.C.Client.told c.pull.new.clients in
    let k = g.K.ChunkCache.told c.args.cache.now in
    let l = g.K.ChunkCache.told c.pull.new.cache in
    let caught = subst IsFreeCaught (sym c.self.view_is) c.requires in
    subst (λ (xs : List ℕ). IsPlacing c.pull.new.self xs i.early) (sym c.reserve.ensures.items)
    (ordered_error i.stepper c.pull.new.self i.delivered.items i.early i.ended c.self.invariant caught cs ds k l
    c.in-Err.error c.in-Err.ensures.call)

pub returns-in-Ok-Ready-Some : goal.returns-in-Ok-Ready-Some
returns-in-Ok-Ready-Some g c =
    let i = c.self.inside in
    let cs = map g.C.Client.told c.args.clients.now in
    let ds = map g.C.Client.told c.pull.new.clients in
    let k = g.K.ChunkCache.told c.args.cache.now in
    let l = g.K.ChunkCache.told c.pull.new.cache in
    let caught = subst IsFreeCaught (sym c.self.view_is) c.requires in
    let s = c.in-Ok-Ready-Some in
    let call = as_piece (λ (x : Answer). PullCall i.stepper c.pull.new.self cs ds k l x) s.field-0 s.field-0-0 s.piece
    s.field-0-is s.field-0-0-is s.ensures.call in
    let placed = as_piece (λ (x : Answer). IsPlaced c.pull.new.self.events c.pull.new.start x) s.field-0 s.field-0-0
    s.piece s.field-0-is s.field-0-0-is s.ensures.placed in
    let place = c.saturating_sub-place.result in
    let at : place ≡ c.pull.new.start - i.stepper.setup.range.start =
    c.saturating_sub-place.ensures ∙ ap (λ (n : ℕ). c.pull.new.start - n) c.range_start-from.ensures in
    let pushed : c.push_reserved.new.self.items ≡ i.delivered.items ++ place ∷ [] =
    c.push_reserved.ensures.items ∙ ap (λ (xs : List ℕ). xs ++ place ∷ []) c.reserve.ensures.items in
    let n : UnorderedView = record {
      stream = c.pull.new.self;
      delivered = c.push_reserved.new.self.items;
      ended = i.ended;
    } in
    subst (λ (z : UnorderedView). OrderedCall z n cs ds k l (Ok (Ready (Some (place, s.piece))))) c.self.view_is (record {
      asked = Ok (Ready (Some s.piece));
      call = call;
      after = (
        (place, s.piece),
        refl,
        ordered_gives i.stepper c.pull.new.self i.delivered.items i.early i.ended c.self.invariant caught cs ds k l
            s.piece call c.pull.new.start placed place at c.push_reserved.new.self.items pushed,
      );
    })

pub returns-in-Ok-Ready-None : goal.returns-in-Ok-Ready-None
returns-in-Ok-Ready-None g c =
    let i = c.self.inside in
    let cs = map g.C.Client.told c.args.clients.now in
    let ds = map g.C.Client.told c.pull.new.clients in
    let k = g.K.ChunkCache.told c.args.cache.now in
    let l = g.K.ChunkCache.told c.pull.new.cache in
    let caught = subst IsFreeCaught (sym c.self.view_is) c.requires in
    let s = c.in-Ok-Ready-None in
    let call = as_none (λ (x : Answer). PullCall i.stepper c.pull.new.self cs ds k l x) s.field-0 s.field-0-0 s.field-0-is
    s.field-0-0-is s.ensures.call in
    let n : UnorderedView = record {
      stream = c.pull.new.self;
      delivered = c.reserve.new.self.items;
      ended = true;
    } in
    subst (λ (z : UnorderedView). OrderedCall z n cs ds k l (Ok (Ready None))) c.self.view_is (record {
      asked = Ok (Ready None);
      call = call;
      after = (
        refl,
        ap (λ (xs : List ℕ). record { stream = c.pull.new.self; delivered = xs; ended = true })
            c.reserve.ensures.items,
      );
    })

pub returns-in-Ok-Pending : goal.returns-in-Ok-Pending
returns-in-Ok-Pending g c =
    let i = c.self.inside in
    let cs = map g.C.Client.told c.args.clients.now in
    let ds = map g.C.Client.told c.pull.new.clients in
    let k = g.K.ChunkCache.told c.args.cache.now in
    let l = g.K.ChunkCache.told c.pull.new.cache in
    let caught = subst IsFreeCaught (sym c.self.view_is) c.requires in
    let s = c.in-Ok-Pending in
    let call = as_pending (λ (x : Answer). PullCall i.stepper c.pull.new.self cs ds k l x) s.field-0 s.field-0-is
    s.ensures.call in
    let n : UnorderedView = record {
      stream = c.pull.new.self;
      delivered = c.reserve.new.self.items;
      ended = i.ended;
    } in
    let same = ap (λ (xs : List ℕ). record { stream = c.pull.new.self; delivered = xs; ended = i.ended })
    c.reserve.ensures.items in
    subst (λ (z : UnorderedView). OrderedCall z n cs ds k l (Ok Pending)) c.self.view_is (record {
      asked = Ok Pending;
      call = call;
      after = (
        refl,
        same,
        pending_goes_on i.stepper c.pull.new.self i.delivered.items i.early i.ended c.self.invariant caught cs ds k l call,
        subst IsCaught (sym same) (pending_caught i.stepper c.pull.new.self i.delivered.items i.early i.ended
            c.self.invariant caught cs ds k l call),
      );
    })

pub returns-in-Err : goal.returns-in-Err
returns-in-Err g c =
    let i = c.self.inside in
    let cs = map g.C.Client.told c.args.clients.now in
    let ds = map g.C.Client.told c.pull.new.clients in
    let k = g.K.ChunkCache.told c.args.cache.now in
    let l = g.K.ChunkCache.told c.pull.new.cache in
    let caught = subst IsFreeCaught (sym c.self.view_is) c.requires in
    let n : UnorderedView = record {
      stream = c.pull.new.self;
      delivered = c.reserve.new.self.items;
      ended = i.ended;
    } in
    subst (λ (z : UnorderedView). OrderedCall z n cs ds k l (Err c.in-Err.error)) c.self.view_is (record {
      asked = Err c.in-Err.error;
      call = c.in-Err.ensures.call;
      after = (
        refl,
        ap (λ (xs : List ℕ). record { stream = c.pull.new.self; delivered = xs; ended = i.ended })
            c.reserve.ensures.items,
      );
    })
