-- Steps over a board.
--     Asks r x          the request r asks for the change x; asks-attach, asks-facet, asks-cut, asks-back
--     took-made         a change that came in
--     took-refused      one that was refused
--     took-look         a look that is no change
--     took-rest         a request that does not look
--     made-nothing      no facets add nothing, where that is looked at
--     given-none, look-whole         a look gives nothing, and tells the line
--     made-front, declined-front     the line shown only grows
use Rattle.std.proofs.Common.{◌≡◌, ℕ, ◌+◌, Bool, true, false, List, [], length, Option, Some, None, Ok, Err, refl, sym, ap, ◌∙◌, subst, arith, append-nil, le-leb}
use Rattle.std.specs.Prelude.{IfSome, cond}
use Rattle.std.proofs.lemmas.Bool.{true≢false}
use mathlib.Core.List.{IsPrefix}
use Rattle.homology.specs.Growth.{capacity}
use Rattle.language.specs.Language.{Request, Attach, Facet, Cut, Back}
use Rattle.lines.specs.Lines.{Line, IsLegal, simplices}
use Rattle.lines.specs.Changes.{Change, Refusal, judged}
use Rattle.lines.specs.Changes as change
use Rattle.lines.specs.Callers.{State, after, added_so, change_of, changed, changed_so, line_after_change, looks}
use Rattle.lines.proofs.LineLaws.{legal-short}
use Rattle.transcript.specs.Replies.{Reply}
use Rattle.transcript.specs.Steps.{accepted, refused, reply, reply_to_change, told}
use Rattle.version_roots.specs.Boards.{Given, Sight, Looks, Makes, Refuses, Declines, given_by, told_anew, with_given}
use Rattle.session_core.specs.Holdings.{Holding, state_of}
use Rattle.session_core.specs.Steps.{Took}
use Rattle.session_core.proofs.FrontLaws.{front-self, front-trans}

pub record Asks (r : Request) (x : Change) : Type 0 where
  pub looks_so : looks r ≡ true
  pub change_so : change_of r ≡ Some x
  pub after_so : (L : Line) (c : ℕ) (st : State) → after L c st r ≡ changed L c st x
  pub reply_so : (L : Line) (c : ℕ) (st : State) → reply L c st r ≡ reply_to_change L c x

pub asks-attach : (s : List ℕ) → Asks (Attach s) (change.Attach s)
asks-attach s = record { looks_so = refl; change_so = refl; after_so = λ L c st. refl; reply_so = λ L c st. refl }

pub asks-facet : (F : List (List ℕ)) → Asks (Facet F) (change.Facet F)
asks-facet F = record { looks_so = refl; change_so = refl; after_so = λ L c st. refl; reply_so = λ L c st. refl }

pub asks-cut : Asks Cut change.Cut
asks-cut = record { looks_so = refl; change_so = refl; after_so = λ L c st. refl; reply_so = λ L c st. refl }

pub asks-back : (v : ℕ) → Asks (Back v) (change.Back v)
asks-back v = record { looks_so = refl; change_so = refl; after_so = λ L c st. refl; reply_so = λ L c st. refl }

pub given-none : (g : Given) → g ≡ with_given g (given_by [])
given-none g =
    let attaches : g.attaches ≡ g.attaches + 0 = omega arith in
    let cuts : g.cuts ≡ g.cuts + 0 = omega arith in
    let returns : g.returns ≡ g.returns + 0 = omega arith in
    λ i. record { attaches = attaches i; cuts = cuts i; returns = returns i }

pub look-whole : (o : Option Line) (L : Line) → IfSome o (λ W. L ≡ W) → o ≡ told_anew o L
look-whole (Some W) L is = ap (λ (M : Line). Some M) (sym is)
look-whole None L is = refl

err-state : (L : Line) (st : State) (x : Change) (why : Refusal) → changed_so L st x (Err why) ≡ record st { seen = length L }
err-state L st (change.Attach s) why = refl
err-state L st (change.Facet F) why = refl
err-state L st change.Cut why = refl
err-state L st (change.Back v) why = refl

pub took-made : (a b : Sight) (h g : Holding) (r : Request) (x : Change) (J : Line) (said : Reply) → Asks r x → (m : Makes a x b J)
    → state_of g ≡ changed_so J (state_of h) x (Ok m.added.entries) → said ≡ accepted J x m.added.entries → Took a h r b g said
took-made a b h g r x J said asks m state says = record {
  on = J;
  added = m.added.entries;
  front = m.front;
  told = λ _. m.told;
  rests = λ blind. absurd (true≢false (sym asks.looks_so ∙ blind));
  grows = ap (line_after_change J a.caller) asks.change_so ∙ ap (added_so J) m.added.so;
  line = m.added.whole;
  state = state ∙ sym (asks.after_so J a.caller (state_of h) ∙ ap (changed_so J (state_of h) x) m.added.so);
  says = says ∙ sym (asks.reply_so J a.caller (state_of h) ∙ ap (told J x) m.added.so);
  stays = m.stays;
  given = m.given;
  whole = λ _. m.whole;
}

pub took-refused : (a b : Sight) (h g : Holding) (r : Request) (x : Change) (why : Refusal) (said : Reply) → Asks r x → Refuses a x b why
    → state_of g ≡ record (state_of h) { seen = length b.line } → said ≡ refused why → Took a h r b g said
took-refused a b h g r x why said asks refuses state says = record {
  on = b.line;
  added = [];
  front = refuses.looks.front;
  told = λ _. refuses.looks.told;
  rests = λ blind. absurd (true≢false (sym asks.looks_so ∙ blind));
  grows = ap (line_after_change b.line a.caller) asks.change_so ∙ ap (added_so b.line) refuses.so ∙ sym (append-nil b.line);
  line = sym (append-nil b.line);
  state = state ∙ sym (asks.after_so b.line a.caller (state_of h) ∙ ap (changed_so b.line (state_of h) x) refuses.so ∙ err-state b.line (state_of h) x why);
  says = says ∙ sym (asks.reply_so b.line a.caller (state_of h) ∙ ap (told b.line x) refuses.so);
  stays = refuses.looks.stays;
  given = refuses.looks.given ∙ given-none a.given;
  whole = λ _. refuses.looks.whole ∙ look-whole a.whole b.line refuses.looks.told;
}

pub took-look : (a b : Sight) (h g : Holding) (r : Request) (said : Reply) → looks r ≡ true → change_of r ≡ None → Looks a b
    → state_of g ≡ after b.line a.caller (state_of h) r → said ≡ reply b.line a.caller (state_of h) r → Took a h r b g said
took-look a b h g r said sees plain look state says = record {
  on = b.line;
  added = [];
  front = look.front;
  told = λ _. look.told;
  rests = λ blind. absurd (true≢false (sym sees ∙ blind));
  grows = ap (line_after_change b.line a.caller) plain ∙ sym (append-nil b.line);
  line = sym (append-nil b.line);
  state = state;
  says = says;
  stays = look.stays;
  given = look.given ∙ given-none a.given;
  whole = λ _. look.whole ∙ look-whole a.whole b.line look.told;
}

pub took-rest : (a : Sight) (h g : Holding) (r : Request) (said : Reply) → looks r ≡ false → change_of r ≡ None
    → state_of g ≡ after a.line a.caller (state_of h) r → said ≡ reply a.line a.caller (state_of h) r → Took a h r a g said
took-rest a h g r said blind plain state says = record {
  on = a.line;
  added = [];
  front = front-self a.line;
  told = λ sees. absurd (true≢false (sym sees ∙ blind));
  rests = λ _. refl;
  grows = ap (line_after_change a.line a.caller) plain ∙ sym (append-nil a.line);
  line = sym (append-nil a.line);
  state = state;
  says = says;
  stays = (refl, refl);
  given = given-none a.given;
  whole = λ sees. absurd (true≢false (sym sees ∙ blind));
}

abbrev pub made-nothing : (a b : Sight) → Looks a b → IsLegal b.line → Makes a (change.Facet []) b b.line
made-nothing a b look legal =
    let short = legal-short b.line legal in
    record {
      stays = look.stays;
      front = look.front;
      told = look.told;
      added = record {
        entries = [];
        so = ap (λ (fits : Bool). cond fits (Ok []) (Err (change.IsFull (length (simplices b.line))))) (le-leb (length (simplices b.line) + 0) capacity (omega (arith, short.room)));
        whole = sym (append-nil b.line);
      };
      given = look.given ∙ given-none a.given;
      whole = look.whole ∙ look-whole a.whole b.line look.told;
    }

pub made-front : (a b : Sight) (x : Change) (J : Line) → Makes a x b J → IsPrefix a.line b.line
made-front a b x J m = front-trans a.line J b.line m.front (m.added.entries, sym m.added.whole)

pub declined-front : (a b : Sight) (x : Change) (o : Option Refusal) → Declines a x b o → IsPrefix a.line b.line
declined-front a b x (Some why) refuses = refuses.looks.front
declined-front a b x None same = subst (λ (s : Sight). IsPrefix a.line s.line) (sym same) (front-self a.line)
