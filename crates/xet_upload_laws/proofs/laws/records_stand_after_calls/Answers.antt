use Rattle.xet_upload_laws.proofs.Ends.{end-all-stand}
use Rattle.xet_upload_laws.proofs.Standing.{finish-stands, upload-stands}
use Rattle.xet_upload_laws.proofs.Steps.{ask-stands, counts-stand, cut-stands, feed-stands, file-stands, learning-stands, new-stands, register-stands, search-stands}
use Rattle.xet_upload_laws.proofs.laws.records_stand_after_calls.Goals as goal

pub returns : goal.returns
returns c = record {
  new = new-stands;
  register = register-stands;
  search = search-stands;
  counts = counts-stand;
  learning = learning-stands;
  ask = ask-stands;
  cut = cut-stands;
  file = file-stands;
  feed = feed-stands;
  finish = finish-stands;
  upload = upload-stands;
  end = end-all-stand;
  end_files = end-all-stand;
  end_report = end-all-stand;
}
