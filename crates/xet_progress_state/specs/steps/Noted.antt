-- The call that a note stands for.
use Rattle.xet_progress_state.specs.declared.step.TrackerStep.{TrackerStep}
use Rattle.xet_progress_state.specs.declared.step.TrackerStep.TheVariants.{RegisterNewFile, IncrementFileSize}
use Rattle.xet_progress_state.specs.declared.step.TrackerStep.TheVariants.{RegisterNewXorb, RegisterDependencies}
use Rattle.xet_progress_state.specs.declared.step.TrackerStep.TheVariants.{RegisterXorbUploadCompletion}
use Rattle.xet_progress_state.specs.declared.step.TrackerStep.TheVariants.{RegisterXorbUploadProgress}
use Rattle.xet_progress_state.specs.declared.step.TrackerStep.TheVariants.{RegisterXorbUploadProgressBackground}
use Rattle.xet_progress_state.specs.declared.step.Note.{Note}
use Rattle.xet_progress_state.specs.declared.step.Note.TheVariants as note

abbrev pub step_of : Note → TrackerStep
step_of (note.NewFile n) = RegisterNewFile n
step_of (note.Growth f k) = IncrementFileSize f k
step_of (note.NewXorb h s) = RegisterNewXorb h s
step_of (note.Dependencies ds) = RegisterDependencies ds.now
step_of (note.Completion h) = RegisterXorbUploadCompletion h
step_of (note.Progress h k) = RegisterXorbUploadProgress h k
step_of (note.Background h k) = RegisterXorbUploadProgressBackground h k
