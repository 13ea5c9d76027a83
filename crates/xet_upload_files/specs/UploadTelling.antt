-- A file to upload as contracts see it.
use Rattle.xet_outside.specs.Told.{SourceTold}
use Rattle.xet_clean_parts.specs.Places.{Telling}
use Rattle.xet_upload_files.specs.Uploads.{FileTold}
use Rattle.xet_upload_files.specs.declared.uploads.UploadFile.{UploadFile}

-- by what its source and its cutter tell
abbrev pub file_told : {I T : Type 0} → (I → SourceTold) → (T → Telling) → UploadFile I T → FileTold
file_told source cutter f = record {
  name = f.name;
  source = source f.source;
  size = f.length;
  policy = f.sha256;
  tell = cutter f.cutter;
}
