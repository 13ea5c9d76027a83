use Rattle.std.proofs.Common.{◌≡◌, ◌-◌, ℕ, List, ap, length, rules, take, ◌∙◌}
use Rattle.std.specs.List.{copy_within}
use Rattle.xet_serve_command.proofs.Parts.{front_of, moved}
use Rattle.xet_serve_command.proofs.first_line.drop_front.Goals as goal

pub returns : goal.returns
returns c =
    let text = c.args.text.now.items in
    let end : c.len-end.result ≡ length c.args.text.now.items = search rules in
    let size : length c.copy_within.new.self ≡ c.args.text.now.len = search rules in
    let is : c.copy_within.new.self ≡ copy_within c.args.text.now.items c.args.place c.len-end.result 0 = search rules in
    c.truncate.ensures.items
    ∙ front_of c.copy_within.new.self _ c.args.text.now.len (c.len-end.result - c.args.place) size
    ∙ ap (λ (l : List ℕ). take (c.len-end.result - c.args.place) l) is
    ∙ ap (λ (k : ℕ). take (k - c.args.place) (copy_within text c.args.place k 0)) end
    ∙ moved text c.args.place c.requires
