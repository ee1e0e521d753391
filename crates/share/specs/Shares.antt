-- What the program does with its words.
use Rattle.std.specs.Prelude.{◌≡◌, ◌≢◌, ℕ, List, [], ◌∷◌, Ok, Err, Result, Option, String, string_bytes, codes}
use Rattle.std.specs.Io.KnownBytes.{Appends, Keeps}
use Rattle.std.specs.Process.{exit_status}
use Rattle.std.specs.declared.alloc.Global.{Global}
use Rattle.std.specs.declared.process.ExitCode.{ExitCode}
use Rattle.sharing.specs.declared.fault.Fault.{Fault}
use Rattle.sharing.specs.Request.{Answered}
use Rattle.streams.specs.Written.{AppendsFront}
use Rattle.streams.specs.declared.failure.Failure.{Failure}
use Rattle.streams.specs.declared.failure.Failure.TheVariants.{Writing, Reporting}

-- The one word that asks for help.
abbrev pub help : List (List ℕ)
help = codes "--help" ∷ []

module _ {R W E : Type 0} (words : List (List ℕ)) (held held' said said' : Option (List ℕ)) where
  -- The table is written, all of it and nothing else, and nothing is reported; where the output fails, a front of it is
  -- written. Where the words ask for help or are refused, nothing is written. Both sinks go from what they held to what
  -- they hold, where that is known.
  pub data Shares : Result ExitCode (Failure R W E) → Type 0 where
    helped : {code : ExitCode} → words ≡ help → Keeps held held' → exit_status code ≡ 0 → Shares (Ok code)
    not_helped : {e : E} → words ≡ help → Keeps held held' → Shares (Err (Reporting e))
    shared : {code : ExitCode} (text : String Global) → words ≢ help → Answered words (Ok text)
        → Appends held held' (string_bytes text) → Keeps said said' → exit_status code ≡ 0 → Shares (Ok code)
    not_written : {e : W} {code : ExitCode} (text : String Global) → words ≢ help → Answered words (Ok text)
        → AppendsFront held held' (string_bytes text) → Keeps said said' → exit_status code ≡ 0
        → Shares (Err (Writing e code))
    refused : {code : ExitCode} (fault : Fault) → words ≢ help → Answered words (Err fault)
        → Keeps held held' → exit_status code ≡ 1 → Shares (Ok code)
    not_reported : {e : E} (fault : Fault) → words ≢ help → Answered words (Err fault)
        → Keeps held held' → Shares (Err (Reporting e))
