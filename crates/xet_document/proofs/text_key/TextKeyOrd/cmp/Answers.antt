use Rattle.std.proofs.Common.{◌≡◌, true, sym, ◌∙◌}
use Rattle.std.specs.Ordering.{is_ne, nat_cmp}
use Rattle.xet_document.proofs.Leads.{by_leads}
use Rattle.xet_document.proofs.text_key.TextKeyOrd.cmp.Goals as goal

pub returns-then-is_ne : goal.returns-then-is_ne
returns-then-is_ne c =
    let a = c.args.self.now in
    let b = c.args.other.now in
    let differ : is_ne (nat_cmp a.lead b.lead) ≡ true = rw c.cmp-leads.ensures at (sym c.is_ne.ensures ∙ c.if-is_ne.true) in
    c.cmp-leads.ensures ∙ by_leads a.lead b.lead a.text.now b.text.now a.led b.led differ
