-- Requests that do not look at the line.
--     named-took                    one that keeps versions under names
--     asked-took                    a question
--     silent-took, later-took, quit-took        the others
--     holding-stands, taking-stands, releasing-stands       what is held stays of the line
use Rattle.std.proofs.Common.{◌≡◌, ℕ, suc, Bool, true, false, cond, List, [], ◌∷◌, ◌++◌, length, Option, Some, None, refl, sym, ap, ◌∙◌, subst, arith}
use Rattle.std.specs.Prelude.{nat_lt, not}
use Rattle.std.specs.List.{All}
use Rattle.std.proofs.lemmas.List.Elements.{All-filter, All-push}
use mathlib.Core.List.{IsPrefix}
use Rattle.homology.specs.Complexes.{Complex}
use Rattle.homology.specs.Simplices.{same_list}
use Rattle.language.specs.Language.{Request, Compute, Ask, Blank, Quit, Round}
use Rattle.language.specs.Verbs.{verb}
use Rattle.lines.specs.Lines.{Line, cuts}
use Rattle.lines.specs.Callers.{change_of, looks, name_capacity}
use Rattle.transcript.specs.Answers.{answer}
use Rattle.transcript.specs.Replies.{Reply, Computed, HasQuit, Later, Silent}
use Rattle.transcript.specs.Steps.{reply}
use Rattle.version_roots.specs.Boards.{Sight}
use Rattle.session_core.specs.Holdings.{Holding, Stands, state_of}
use Rattle.session_core.specs.Names.{NamesSo, holding, holding_so, line_held, releasing, taking, taking_so}
use Rattle.session_core.specs.Steps.{Took}
use Rattle.session_core.proofs.FrontLaws.{version-front}
use Rattle.session_core.proofs.StepLaws.{took-rest}

pub named-took : (a : Sight) (h g : Holding) (r : Request) (said : Reply) → looks r ≡ false → change_of r ≡ None → NamesSo h r g said → Took a h r a g said
named-took a h g r said blind plain so = took-rest a h g r said blind plain (so.state a.line a.caller) (so.says a.line a.caller)

pub asked-took : (a : Sight) (h : Holding) (q : Compute) (said : Reply) → Stands h a.line → said ≡ reply h.in_use 0 (state_of h) (Ask q) → Took a h (Ask q) a h said
asked-took a h q said S is =
    took-rest a h h (Ask q) said refl refl refl
    (is ∙ ap (λ (K : Complex). Computed (cuts h.in_use) (verb q) (answer K q)) (sym (version-front h.in_use a.line S.in_use)))

pub silent-took : (a : Sight) (h : Holding) → Took a h Blank a h Silent
silent-took a h = took-rest a h h Blank Silent refl refl refl refl

pub later-took : (a : Sight) (h : Holding) (n : ℕ) → Took a h (Round n) a h Later
later-took a h n = took-rest a h h (Round n) Later refl refl refl refl

pub quit-took : (a : Sight) (h : Holding) → Took a h Quit a h HasQuit
quit-took a h = took-rest a h h Quit HasQuit refl refl refl refl

pub holding-stands : (x : List ℕ) (h : Holding) (L : Line) → Stands h L → Stands (holding x h) L
holding-stands x h L S = at (line_held h.names x)
  where
    within : (b : Bool) → Stands (cond b (record h { names = h.names ++ (x, h.in_use) ∷ [] }) h) L
    within true = record { seen = S.seen; names = All-push (λ (n : List ℕ × Line). IsPrefix n.1 L) h.names (x, h.in_use) S.names S.in_use; in_use = S.in_use }
    within false = S

    at : (o : Option Line) → Stands (holding_so x h o) L
    at (Some K) = S
    at None = within (nat_lt (length h.names) name_capacity)

taken-front : (names : List (List ℕ × Line)) (x : List ℕ) (L K : Line) → All (λ n. IsPrefix n.1 L) names → line_held names x ≡ Some K → IsPrefix K L
taken-front [] x L K all is = absurd (cc is)
taken-front ((y, M) ∷ names) x L K all is = at (taken-front names x L K (λ k d below. all (suc k) d (omega (arith, below)))) (same_list y x) is
  where
    at : (line_held names x ≡ Some K → IsPrefix K L) → (b : Bool) → cond b (Some M) (line_held names x) ≡ Some K → IsPrefix K L
    at others true q =
        let same : M ≡ K = cc q in
        subst (λ (J : Line). IsPrefix J L) same (all 0 (y, M) (omega arith))
    at others false q = others q

pub taking-stands : (x : List ℕ) (h : Holding) (L : Line) → Stands h L → Stands (taking x h) L
taking-stands x h L S = at (line_held h.names x) refl
  where
    at : (o : Option Line) → line_held h.names x ≡ o → Stands (taking_so h o) L
    at (Some K) is = record { seen = S.seen; names = S.names; in_use = taken-front h.names x L K S.names is }
    at None is = S

pub releasing-stands : (x : List ℕ) (h : Holding) (L : Line) → Stands h L → Stands (releasing x h) L
releasing-stands x h L S = record {
  seen = S.seen;
  names = All-filter (λ (n : List ℕ × Line). not (same_list n.0 x)) (λ (n : List ℕ × Line). IsPrefix n.1 L) h.names S.names;
  in_use = S.in_use;
}
