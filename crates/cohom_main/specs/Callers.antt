-- The callers of a script, over its board.
--     script_of b hs     what a script has come to, by its board and what its sessions hold
--     AreBeside b hs     there is a session for each caller, what each holds is of the board's line, and the board has shown all of it
use Rattle.std.specs.Prelude.{◌≡◌, List, length, map}
use Rattle.std.specs.List.{All}
use Rattle.lines.specs.Lines.{callers}
use Rattle.transcript.specs.Steps.{State}
use Rattle.version_roots.specs.Local.{Local, sight_of}
use Rattle.session_core.specs.Holdings.{Holding, Stands, state_of}

abbrev pub script_of : Local → List Holding → State
script_of b hs = record { line = b.whole; callers = map state_of hs }

pub record AreBeside (b : Local) (hs : List Holding) : Type 0 where
  pub each : length hs ≡ callers
  pub shown : (sight_of b).line ≡ b.whole
  pub stand : All (λ h. Stands h b.whole) hs
