-- Texts compare by the numbers that their first bytes write, and then by the rest.
use Rattle.std.proofs.Common.{◌≡◌, ℕ, true, List, length, take, drop, sym, ◌∙◌, ap, arith}
use Rattle.std.specs.Ordering.{is_ne, nat_cmp, ordering_then}
use Rattle.std.specs.Cmp.Lexicographic.{slice_cmp}
use Rattle.std.proofs.lemmas.List.{length-take}
use Rattle.xet_base.proofs.CallerLemmas.{numbers_cmp, settled, split}
use Rattle.xet_document.specs.steps.Leads.{IsLead}

-- texts compare by their leads, and then by the rest
leads_cmp : (m n : ℕ) (xs ys : List ℕ) → IsLead m xs → IsLead n ys → slice_cmp nat_cmp xs ys ≡ ordering_then (nat_cmp m n) (slice_cmp nat_cmp (drop 8 xs) (drop 8 ys))
leads_cmp m n xs ys a b =
    let alike : length (take 8 xs) ≡ length (take 8 ys) = omega (arith, length-take 8 xs, length-take 8 ys, a.long, b.long) in
    let numbers : nat_cmp m n ≡ slice_cmp nat_cmp (take 8 xs) (take 8 ys) = rw (a.is, b.is) (numbers_cmp 0 0 (take 8 xs) (take 8 ys) alike a.bytes b.bytes) in
    split 8 xs ys a.long b.long ∙ ap (λ o. ordering_then o (slice_cmp nat_cmp (drop 8 xs) (drop 8 ys))) (sym numbers)

-- leads that differ decide
pub by_leads : (m n : ℕ) (xs ys : List ℕ) → IsLead m xs → IsLead n ys → is_ne (nat_cmp m n) ≡ true → nat_cmp m n ≡ slice_cmp nat_cmp xs ys
by_leads m n xs ys a b differ = sym (leads_cmp m n xs ys a b ∙ settled (nat_cmp m n) _ differ)
