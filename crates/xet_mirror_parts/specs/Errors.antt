-- What an error of a connection is to one who mirrors.
use Rattle.xet_outside.specs.declared.client.ClientError.{ClientError}
use Rattle.xet_outside.specs.declared.client.ClientError.TheVariants as client_error
use Rattle.xet_mirror_parts.specs.declared.report.MirrorError.{MirrorError}
use Rattle.xet_mirror_parts.specs.declared.report.MirrorError.TheVariants as mirror_error

-- want of memory stays, and a failed call is an error of the connection
abbrev pub of_client : ClientError → MirrorError
of_client client_error.OutOfMemory = mirror_error.OutOfMemory
of_client client_error.Failed = mirror_error.ClientError
