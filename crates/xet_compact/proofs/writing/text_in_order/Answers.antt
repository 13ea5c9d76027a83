use Rattle.std.proofs.Common.{◌≡◌, ◌∙◌, ap, [], rules, string_bytes}
use Rattle.serde_json.specs.Read.{read}
use Rattle.xet_audit.specs.Raws.{store_of_raw}
use Rattle.xet_compact.proofs.Writes.{text_made, utf8_made}
use Rattle.xet_compact.proofs.writing.text_in_order.Goals as goal

pub unwrap-requires : goal.unwrap-requires
unwrap-requires c =
    let empty : c.new-out.result.before ≡ [] = search rules in
    c.from_utf8.ensures.succeeds (utf8_made c.into_inner.result.items empty c.in_ok-write_store.ensures.written
    c.into_inner.ensures.items c.into_inner.ensures.utf8)

pub returns-clause-text : goal.returns-clause-text
returns-clause-text c =
    let empty : c.new-out.result.before ≡ [] = search rules in
    let none : c.new-out.result.tokens ≡ [] = search rules in
    let whole : string_bytes c.unwrap.result ≡ c.into_inner.result.items = search rules in
    let made = text_made (store_of_raw c.args.raw.now) c.into_inner.result.items c.in_ok-write_store.ensures.told c.requires
    empty none c.in_ok-write_store.ensures.written c.into_inner.ensures.items c.into_inner.ensures.reads_back in
    whole ∙ made.0

pub returns-clause-reads : goal.returns-clause-reads
returns-clause-reads c =
    let empty : c.new-out.result.before ≡ [] = search rules in
    let none : c.new-out.result.tokens ≡ [] = search rules in
    let whole : string_bytes c.unwrap.result ≡ c.into_inner.result.items = search rules in
    let made = text_made (store_of_raw c.args.raw.now) c.into_inner.result.items c.in_ok-write_store.ensures.told c.requires
    empty none c.in_ok-write_store.ensures.written c.into_inner.ensures.items c.into_inner.ensures.reads_back in
    ap read whole ∙ made.1
