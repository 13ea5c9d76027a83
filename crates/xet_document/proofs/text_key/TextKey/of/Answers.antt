use Rattle.xet_document.proofs.text_key.TextKey.of.Goals as goal

pub invariant_of-result : goal.invariant_of-result
invariant_of-result c = record {
  led = record {
    long = c.requires;
    bytes = rw c.as_bytes.ensures.value at c.lead.ensures.small;
    is = rw c.as_bytes.ensures.value at c.lead.ensures.value;
  };
}
