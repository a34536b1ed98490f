-- A board that callers use in turn.
--     Local          the caller whose turn it is, how much was shown, and the line
--     local_code     a code for them
--     sight_of b     what the caller sees: the first entries as shown; all entries were given by this board's answers, and the
--                    whole line is told
use Rattle.std.specs.Prelude.{ℕ, [], take, Some, refl}
use Rattle.std.specs.Coded.{Coded, code_by, coded_ℕ, coded_list, coded×}
use Rattle.lines.specs.Lines.{Line}
use Rattle.version_roots.specs.Entries.{entry_code}
use Rattle.version_roots.specs.Boards.{Sight, given_by}

pub record Local : Type 0 where
  pub caller : ℕ
  pub shown : ℕ
  pub whole : Line

abbrev pub local_code : Coded Local
local_code = code_by (ℕ × (ℕ × Line)) (coded× coded_ℕ (coded× coded_ℕ (coded_list entry_code))) (λ b. (b.caller, (b.shown, b.whole))) (λ p. record { caller = p.0; shown = p.1.0; whole = p.1.1 }) (λ _. refl)

abbrev pub sight_of : Local → Sight
sight_of b = record { caller = b.caller; home = []; line = take b.shown b.whole; given = given_by b.whole; whole = Some b.whole }
