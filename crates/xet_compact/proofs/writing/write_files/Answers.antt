use Rattle.std.proofs.Common.{◌≡◌, ◌∙◌, ◌+◌, ap, sym, subst, List, ◌++◌, ◌∷◌, [], All, flat_map, take}
use Rattle.std.proofs.lemmas.List.{take_all, take_more}
use Rattle.std.proofs.lemmas.List.Elements.{All-map, All-nil, All-push}
use Rattle.std.proofs.lemmas.List.Folds.{flat_map-map}
use Rattle.json.specs.Token.{Token}
use Rattle.xet_audit.specs.declared.raw_store.RawFile.{RawFile}
use Rattle.xet_audit.specs.Raws.{file_of_raw}
use Rattle.xet_compact.specs.Documents.{IsListableFile}
use Rattle.xet_compact.specs.steps.Writes.{Adds, file_tokens}
use Rattle.xet_compact.proofs.Writes.{adds_next, adds_none}
use Rattle.xet_compact.proofs.writing.write_files.Goals as goal

abbrev own_tokens : RawFile → List Token
own_tokens f = file_tokens (file_of_raw f)

abbrev IsOwn : RawFile → Type 0
IsOwn f = IsListableFile (file_of_raw f)

pub loop-file-init : goal.loop-file-init
loop-file-init c = record { written = adds_none c.args.out.now; told = All-nil IsOwn }

pub loop-file-preserved : goal.loop-file-preserved
loop-file-preserved c =
    let fs = c.args.files.now in
    let i = c.loop-file.file-index in
    let f = c.file-item.result in
    let w = c.loop-file.invariant in
    let more = take_more fs i f c.loop-file-test.true ∙ ap (λ (g : RawFile). take i fs ++ g ∷ []) (sym c.file-item.is) in
    record {
      written = adds_next own_tokens fs i f c.loop-file-test.true c.file-item.is w.written c.in_ok-write_file.ensures.written;
      told = subst (λ (l : List RawFile). All IsOwn l) (sym more) (All-push IsOwn (take i fs) f w.told
          c.in_ok-write_file.ensures.told);
    }

pub returns : goal.returns
returns c =
    let fs = c.args.files.now in
    let w = c.loop-file.invariant in
    let all = take_all c.loop-file.file-index fs c.loop-file-test.false in
    record {
      written = subst (λ (us : List Token). Adds c.args.out.now c.loop-file.out us) (ap (flat_map own_tokens) all
          ∙ sym (flat_map-map file_tokens file_of_raw fs)) w.written;
      told = All-map IsListableFile file_of_raw fs (subst (λ (l : List RawFile). All IsOwn l) all w.told);
    }
