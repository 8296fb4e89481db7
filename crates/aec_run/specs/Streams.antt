-- The bytes of what is read and of what is written, where those of the readers and writers in them are known.
use Rattle.std.specs.Prelude.{ℕ, List, Option, None}
use Rattle.aec_run.specs.declared.source.Stream.{Stream}
use Rattle.aec_run.specs.declared.source.Stream.TheVariants as stream
use Rattle.aec_run.specs.declared.destination.Sink.{Sink}
use Rattle.aec_run.specs.declared.destination.Sink.TheVariants as sink

-- the bytes that standard input, or a file, will give
abbrev pub stream_remaining : {I F : Type 0} → (I → Option (List ℕ)) → (F → Option (List ℕ)) → Stream I F → Option (List ℕ)
stream_remaining of_input of_file (stream.Input input) = of_input input
stream_remaining of_input of_file (stream.File file) = of_file file

-- the bytes that standard output, or a file, has taken; nobody knows those of a file that is not yet there
abbrev pub sink_contents : {O F : Type 0} → (O → Option (List ℕ)) → (F → Option (List ℕ)) → Sink O F → Option (List ℕ)
sink_contents of_output of_file sink.Pending = None
sink_contents of_output of_file (sink.Output output) = of_output output
sink_contents of_output of_file (sink.File file) = of_file file
