use Rattle.std.proofs.Common.{rules, ◌≡◌, ◌++◌, ◌<◌, ◌^◌, codes, ap, ◌∙◌}
use Rattle.std.specs.Prelude.{IfSome}
use Rattle.serde_json.specs.Data.{string}
use Rattle.serde_json.specs.Written.{compact_text}
use Rattle.xet_pointer.specs.Pointers.{pointer_of, pointer_text}
use Rattle.xet_pointer.specs.steps.WrittenFields.{sha256_text, size_text}
use Rattle.xet_pointer.proofs.Pointers.{pointer_of-pointer_text, pointer_text-parts}
use Rattle.xet_pointer.proofs.xet_file_info.XetFileInfo.as_pointer_file.Goals as goal

built_text : (c : goal.After-from_string) → c.from_string.result ≡ pointer_text c.args.self.now
built_text c =
    let x = c.args.self.now in
    let built : c.from_string.result
    ≡ (((codes "{\"hash\":" ++ compact_text (string x.hash)) ++ size_text x.file_size) ++ sha256_text x.sha256)
    ++ codes "}" = search rules in
    built ∙ pointer_text-parts x

pub returns-clause-text : goal.returns-clause-text
returns-clause-text c = built_text c

pub returns-clause-reads_back : goal.returns-clause-reads_back
returns-clause-reads_back c =
    let small : IfSome c.args.self.now.file_size (λ n. n < 2 ^ 64) = search rules in
    ap pointer_of (built_text c) ∙ pointer_of-pointer_text c.args.self.now small
