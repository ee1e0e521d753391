-- How a program ends.
use Rattle.std.specs.Prelude.{◌≡◌, ◌≢◌, ℕ, List, Ok, Err, Option, Result}
use Rattle.std.specs.Io.KnownBytes.{Keeps}
use Rattle.std.specs.IoError.{error_kind}
use Rattle.std.specs.Process.{exit_status}
use Rattle.std.specs.declared.io.Error.{Error}
use Rattle.std.specs.declared.io.ErrorKind.TheVariants.{BrokenPipe}
use Rattle.std.specs.declared.process.ExitCode.{ExitCode}
use Rattle.streams.specs.declared.failure.Failure.{Failure}
use Rattle.streams.specs.declared.failure.Failure.TheVariants.{Writing}

-- The status, and what stands on the writer of sentences: nothing more where nothing failed, nor
-- where the reader of the output has gone away, and then the status is that of the program.
abbrev pub Concludes : Result ExitCode (Failure Error Error Error) → ℕ → Option (List ℕ) → Option (List ℕ) → Type 0
Concludes (Ok code) status held held' = (status ≡ exit_status code) × Keeps held held'
Concludes (Err (Writing e code)) status held held' =
    (error_kind e ≡ BrokenPipe → (status ≡ exit_status code) × Keeps held held')
    × (error_kind e ≢ BrokenPipe → status ≡ 1)
Concludes (Err f) status held held' = status ≡ 1
