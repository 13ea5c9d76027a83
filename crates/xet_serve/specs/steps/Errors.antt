-- The errors that those of sinks and of readers become.
use Rattle.xet_outside.specs.declared.sink.SinkError.{SinkError}
use Rattle.xet_outside.specs.declared.sink.SinkError.TheVariants as sink_error
use Rattle.xet_serve_lines.specs.declared.line_reader.LineFault.{LineFault}
use Rattle.xet_serve_lines.specs.declared.line_reader.LineFault.TheVariants as line_fault
use Rattle.xet_serve.specs.declared.serve_error.ServeError.{ServeError}
use Rattle.xet_serve.specs.declared.serve_error.ServeError.TheVariants as serve_error

-- a sink's want of memory stays want of memory, and its fault is a write's
abbrev pub of_sink_error : SinkError → ServeError
of_sink_error sink_error.OutOfMemory = serve_error.OutOfMemory
of_sink_error sink_error.Failed = serve_error.WriteFault

-- a source's fault is a read's, and the limit stays the limit
abbrev pub of_line_fault : LineFault → ServeError
of_line_fault line_fault.ReadFault = serve_error.ReadFault
of_line_fault line_fault.InputLimit = serve_error.InputLimit
