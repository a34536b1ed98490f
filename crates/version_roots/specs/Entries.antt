-- Entries of the code, as the definition of the line has them.
--     entry_of e       the entry e
--     entry_code       a code for entries
use Rattle.std.specs.Prelude.{◌≡◌, ◌⊎◌, ℕ, List, refl}
use Rattle.std.specs.Coded.{Coded, code_by, coded_ℕ, coded_list, coded×, coded⊎}
use mathlib.Core.Logic.{inl, inr}
use Rattle.lines.specs.Lines.{Entry, Attach, Cut, Back}
use Rattle.version_roots.specs.declared.entry.Entry as code
use Rattle.version_roots.specs.declared.entry.Entry.TheVariants as kind

abbrev pub entry_of : code.Entry → Entry
entry_of (kind.Attach caller simplex) = Attach caller simplex
entry_of (kind.Cut caller) = Cut caller
entry_of (kind.Back caller version) = Back caller version

abbrev Parts : Type 0
Parts = (ℕ × List ℕ) ⊎ (ℕ ⊎ (ℕ × ℕ))

abbrev parts : Entry → Parts
parts (Attach c s) = inl (c, s)
parts (Cut c) = inr (inl c)
parts (Back c v) = inr (inr (c, v))

abbrev of_parts : Parts → Entry
of_parts (inl (c, s)) = Attach c s
of_parts (inr (inl c)) = Cut c
of_parts (inr (inr (c, v))) = Back c v

pub of_parts-parts : (e : Entry) → of_parts (parts e) ≡ e
of_parts-parts (Attach c s) = refl
of_parts-parts (Cut c) = refl
of_parts-parts (Back c v) = refl

abbrev pub entry_code : Coded Entry
entry_code = code_by Parts (coded⊎ (coded× coded_ℕ (coded_list coded_ℕ)) (coded⊎ coded_ℕ (coded× coded_ℕ coded_ℕ))) parts of_parts of_parts-parts
