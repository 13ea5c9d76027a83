use Rattle.std.proofs.Common.{◌≡◌, ◌∙◌, ap, map}
use Rattle.std.specs.Option.{option_copied}
use Rattle.xet_queue.specs.Calls.{supply_fault}
use Rattle.xet_queue.specs.Unordered.{Unordered, range_of}
use Rattle.xet_queue.proofs.Completing.{fault_is, fault_of}
use Rattle.xet_queue.proofs.data_writer.unordered_writer.UnorderedWriter.test_supply.Goals as goal

pub returns-in-Some : goal.returns-in-Some
returns-in-Some c =
    let start = c.args.start in
    let bytes = c.args.bytes.now in
    let chain : fault_of start bytes (option_copied c.find.result) ≡ supply_fault (map range_of c.args.self.now.wanted) start bytes = ap (fault_of start bytes) c.find.ensures ∙ fault_is start bytes c.self.inside.wanted ∙ ap (λ (w : Unordered). supply_fault (map range_of w.wanted) start bytes) c.self.view_is in
    c.test_length.ensures ∙ (rw c.in-Some.is at chain)

pub returns-in-None : goal.returns-in-None
returns-in-None c =
    let start = c.args.start in
    let bytes = c.args.bytes.now in
    let chain : fault_of start bytes (option_copied c.find.result) ≡ supply_fault (map range_of c.args.self.now.wanted) start bytes = ap (fault_of start bytes) c.find.ensures ∙ fault_is start bytes c.self.inside.wanted ∙ ap (λ (w : Unordered). supply_fault (map range_of w.wanted) start bytes) c.self.view_is in
    rw c.in-None.is at chain
