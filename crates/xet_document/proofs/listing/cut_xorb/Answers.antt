use Rattle.std.proofs.Common.{◌≡◌, ◌-◌, ◌∙◌, ℕ, length, ap, sym, subst}
use Rattle.std.specs.Prelude.{slice_range}
use Rattle.xet_store.specs.Parts.{AreEnds}
use Rattle.xet_document.proofs.Cutting.{part_length}
use Rattle.xet_document.proofs.listing.cut_xorb.Goals as goal

pub cut_chunks-requires : goal.cut_chunks-requires
cut_chunks-requires c =
    let p = c.args.place in
    let size : length c.in_ok-own.own ≡ p.end - p.start =
    ap length c.in_ok-own.ensures.ok ∙ part_length c.args.bytes.now p.start p.end c.requires.ascends c.requires.within in
    subst (λ (n : ℕ). AreEnds 0 (slice_range c.args.ends.now p.first p.last) n) (sym size) c.requires.fill
