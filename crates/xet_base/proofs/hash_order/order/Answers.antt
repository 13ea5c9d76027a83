use Rattle.std.proofs.Common.{◌≡◌, sym, ◌∙◌, true, false}
use Rattle.std.specs.Ordering.{is_ne}
use Rattle.xet_base.proofs.Words.{by_second, by_third, by_last, word_cmp}
use Rattle.xet_base.proofs.hash_order.order.Goals as goal

pub returns-then-is_ne-2 : goal.returns-then-is_ne-2
returns-then-is_ne-2 c =
    let a = c.args.a.now in
    let b = c.args.b.now in
    let first : is_ne (word_cmp a b 0) ≡ false = rw c.word_order-first.ensures at (sym c.is_ne.ensures ∙ c.if-is_ne.false) in
    let second : is_ne (word_cmp a b 8) ≡ true = rw c.word_order-second.ensures at (sym c.is_ne-2.ensures ∙ c.if-is_ne-2.true) in
    c.word_order-second.ensures ∙ by_second a b c.told-a c.told-b first second

pub returns-then-is_ne-3 : goal.returns-then-is_ne-3
returns-then-is_ne-3 c =
    let a = c.args.a.now in
    let b = c.args.b.now in
    let first : is_ne (word_cmp a b 0) ≡ false = rw c.word_order-first.ensures at (sym c.is_ne.ensures ∙ c.if-is_ne.false) in
    let second : is_ne (word_cmp a b 8) ≡ false = rw c.word_order-second.ensures at (sym c.is_ne-2.ensures ∙ c.if-is_ne-2.false) in
    let third : is_ne (word_cmp a b 16) ≡ true = rw c.word_order-third.ensures at (sym c.is_ne-3.ensures ∙ c.if-is_ne-3.true) in
    c.word_order-third.ensures ∙ by_third a b c.told-a c.told-b first second third

pub returns : goal.returns
returns c =
    let a = c.args.a.now in
    let b = c.args.b.now in
    let first : is_ne (word_cmp a b 0) ≡ false = rw c.word_order-first.ensures at (sym c.is_ne.ensures ∙ c.if-is_ne.false) in
    let second : is_ne (word_cmp a b 8) ≡ false = rw c.word_order-second.ensures at (sym c.is_ne-2.ensures ∙ c.if-is_ne-2.false) in
    let third : is_ne (word_cmp a b 16) ≡ false = rw c.word_order-third.ensures at (sym c.is_ne-3.ensures ∙ c.if-is_ne-3.false) in
    c.word_order.ensures ∙ by_last a b c.told-a c.told-b first second third
