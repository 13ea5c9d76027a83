-- The errors of a fetch.
use Rattle.xet_error.specs.declared.error.FileReconstructionError.{FileReconstructionError}
use Rattle.xet_error.specs.declared.error.FileReconstructionError.TheVariants as error
use Rattle.xet_resume.specs.declared.resume_error.ResumeError.{ResumeError}
use Rattle.xet_resume.specs.declared.resume_error.ResumeError.TheVariants as resume_error

-- what a run's error is here: want of memory has an error of its own
abbrev pub of_run : FileReconstructionError → ResumeError
of_run error.OutOfMemory = resume_error.OutOfMemory
of_run e = resume_error.Run e
