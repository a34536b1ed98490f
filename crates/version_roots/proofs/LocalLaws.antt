-- What a caller sees of a board that callers use in turn.
--     given-more         the entries of a longer line, counted
--     local-looks        a look
--     local-done         a change that came in
--     local-refuses      a change that was refused
--     done-so            a change that came in, and what holds of the line then
--     declines-so        a change that was refused by something else than want of memory
use Rattle.std.proofs.Common.{◌≡◌, ℕ, ◌+◌, ◌≤◌, cond, List, [], ◌∷◌, ◌++◌, length, take, drop, refl, sym, ap, ◌∙◌, subst, arith, Err, Option, None, Some, false}
use Rattle.std.specs.Prelude.{count_by, is_none}
use Rattle.std.proofs.lemmas.Bool.{true≢false}
use Rattle.std.proofs.lemmas.List.{take-append-drop, take_all}
use Rattle.std.proofs.lemmas.List.Sums.{sum_by-append}
use mathlib.Core.List.{IsPrefix}
use Rattle.lines.specs.Lines.{Line}
use Rattle.lines.specs.Changes.{Change, Refusal, judged}
use Rattle.lines.proofs.LineLaws.{cuts-append, returns-append}
use Rattle.version_roots.specs.Judged.{Added, Refused}
use Rattle.version_roots.specs.Boards.{Given, Sight, is_attach, given_by, with_given, Looks, Makes, Done, Refuses, Declines}
use Rattle.version_roots.specs.Local.{Local, sight_of}

pub given-more : (L M : Line) → given_by (L ++ M) ≡ with_given (given_by L) (given_by M)
given-more L M = λ i. record {
  attaches = sum_by-append (λ e. cond (is_attach e) 1 0) L M i;
  cuts = cuts-append L M i;
  returns = returns-append L M i;
}

-- the board once its whole line was shown
abbrev pub all_shown : ℕ → Line → Local
all_shown c L = record { caller = c; shown = length L; whole = L }

whole-shown : (L : Line) → take (length L) L ≡ L
whole-shown L = take_all (length L) L (omega arith)

-- what was shown is a beginning of the line
shown-front : (old : Local) → IsPrefix (sight_of old).line old.whole
shown-front old = (drop old.shown old.whole, take-append-drop old.shown old.whole)

pub local-looks : (old new : Local) → new ≡ all_shown old.caller old.whole → Looks (sight_of old) (sight_of new)
local-looks old new is = subst (λ (b : Local). Looks (sight_of old) (sight_of b)) (sym is) (record {
  stays = (refl, refl);
  front = subst (IsPrefix (sight_of old).line) (sym (whole-shown old.whole)) (shown-front old);
  told = whole-shown old.whole;
  given = refl;
  whole = refl;
})

pub local-done : (old new : Local) (x : Change) (L : Line) (P : Line → Type 0) → new ≡ all_shown old.caller L → Added old.whole old.caller x L → P old.whole
    → Done (sight_of old) x (sight_of new) P
local-done old new x L P is added says = subst (λ (b : Local). Done (sight_of old) x (sight_of b) P) (sym is) (record {
  on = old.whole;
  makes = record {
    stays = (refl, refl);
    front = shown-front old;
    told = refl;
    added = record { entries = added.entries; so = added.so; whole = whole-shown L ∙ added.whole };
    given = ap given_by added.whole ∙ given-more old.whole added.entries;
    whole = ap (λ M. Some M) (sym (whole-shown L));
  };
  says = says;
})

pub local-refuses : (old new : Local) (x : Change) (why : Refusal) → new ≡ all_shown old.caller old.whole → judged old.whole old.caller x ≡ Err why
    → Refuses (sight_of old) x (sight_of new) why
local-refuses old new x why is so = record {
  looks = local-looks old new is;
  so = subst (λ (b : Local). judged (sight_of b).line old.caller x ≡ Err why) (sym is) (ap (λ (L : Line). judged L old.caller x) (whole-shown old.whole) ∙ so);
}

pub done-so : (old new : Local) (x : Change) (L : Line) (P : Line → Line → Type 0) → new ≡ all_shown old.caller L → Added old.whole old.caller x L → P old.whole L
    → Done (sight_of old) x (sight_of new) (λ J. P J (sight_of new).line)
done-so old new x L P is added says =
    let shown : (sight_of new).line ≡ L = ap (λ (b : Local). (sight_of b).line) is ∙ whole-shown L in
    local-done old new x L (λ J. P J (sight_of new).line) is added (subst (P old.whole) (sym shown) says)

pub declines-so : (old new : Local) (x : Change) (o : Option Refusal) → new ≡ all_shown old.caller old.whole → is_none o ≡ false → Refused old.whole old.caller x o
    → Declines (sight_of old) x (sight_of new) o
declines-so old new x None is some so = absurd (true≢false some)
declines-so old new x (Some why) is some so = local-refuses old new x why is so
