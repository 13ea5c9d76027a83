use Rattle.std.proofs.Common.{refl}
use Rattle.xet_clean_parts.proofs.FileCalls.{tracks-part, tracks-why}
use Rattle.xet_clean_parts.proofs.deduper.tell_found.Goals as goal

pub returns : goal.returns
returns g c =
    let tracks = rw c.as_slice.ensures at c.register_xorb_dependencies.ensures.tracks in
    record {
      same = c.register_xorb_dependencies.ensures.same;
      why = tracks-why _ _ _ c.register_xorb_dependencies.result tracks;
      tells = tracks-part _ _ _ _ _ c.register_xorb_dependencies.result refl tracks;
      group = c.register_xorb_dependencies.ensures.group;
    }
