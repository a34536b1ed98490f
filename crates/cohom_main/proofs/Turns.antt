-- The step of one of the callers of a script.
--     start-beside, start-script
--                     at first
--     turned b c      the board b at the turn of the caller c
--     Onward b new    the board has shown all of its line, which goes on the one before
--     moved           after a step the board is so, and the line is what the request makes of it
--     took-onward     after a step the board is so; kept-onward: and after want of memory
--     beside-onward   then what the sessions hold is of the line still, where that of the caller is
--     replied         the reply to a step is that of the script; went: and so is what the script has come to
use Rattle.std.proofs.Common.{◌≡◌, ◌<◌, ℕ, Bool, true, false, List, [], ◌∷◌, ◌++◌, length, map, get_or, slice_set, replicate, Some, refl, sym, ap, subst, ◌∙◌, arith, append_assoc, append-nil, length-append, inl, inr, Result, Ok, Err}
use Rattle.std.specs.Result.{IfOk, OnErr}
use Rattle.std.proofs.lemmas.List.{length-set, map-set, get_or-map, length-replicate}
use Rattle.std.proofs.lemmas.List.Elements.{All-set, All-weaker, All-nil, All-replicate}
use mathlib.Core.List.{IsPrefix}
use Rattle.language.specs.Language.{Request}
use Rattle.lines.specs.Lines.{Line, callers}
use Rattle.lines.specs.Callers as caller
use Rattle.lines.specs.Callers.{looks, line_after}
use Rattle.transcript.specs.Replies.{Reply}
use Rattle.transcript.specs.Steps.{after, reply, start}
use Rattle.transcript.specs.Steps as steps
use Rattle.version_roots.specs.Boards.{Sight}
use Rattle.version_roots.specs.Local.{Local, sight_of}
use Rattle.session_core.specs.Holdings.{Holding, Stands, first, state_of}
use Rattle.session_core.specs.Steps.{Took, Keeps}
use Rattle.cohom_main.specs.Callers.{AreBeside, script_of}

abbrev pub turned : Local → ℕ → Local
turned b c = record b { caller = c }

pub record Onward (b new : Local) : Type 0 where
  pub shown : (sight_of new).line ≡ new.whole
  pub front : IsPrefix b.whole new.whole

-- a line that two parts make no longer is the line before them
no_more : (L M N J : Line) → L ++ M ≡ J → L ≡ J ++ N → J ≡ L
no_more L M N J front same =
    let none : length M ≡ 0 = omega (arith, ap length front, length-append L M, ap length same, length-append J N) in
    sym front ∙ ap (λ x. L ++ x) (empty M none) ∙ append-nil L
  where
    empty : (xs : Line) → length xs ≡ 0 → xs ≡ []
    empty [] e = refl
    empty (x ∷ xs) e = absurd (omega (arith, e))

pub record Moved (b new : Local) (c : ℕ) (r : Request) (on : Line) : Type 0 where
  pub on_whole : on ≡ b.whole
  pub shown : (sight_of new).line ≡ new.whole
  pub line : new.whole ≡ line_after b.whole c r

some_same : {X : Type 0} (x y : X) → Some x ≡ Some y → x ≡ y
some_same x y e = cc e

pub moved : (b new : Local) (h g : Holding) (c : ℕ) (r : Request) (said : Reply) → (sight_of b).line ≡ b.whole → (t : Took (sight_of (turned b c)) h r (sight_of new) g said)
    → Moved b new c r t.on
moved b new h g c r said whole t = by (looks r) refl
  where
    with_whole : t.on ≡ b.whole → (sight_of new).line ≡ new.whole → Moved b new c r t.on
    with_whole on shown = record {
      on_whole = on;
      shown = shown;
      line = sym shown ∙ t.line ∙ sym t.grows ∙ ap (λ (L : Line). line_after L c r) on;
    }

    by : (q : Bool) → looks r ≡ q → Moved b new c r t.on
    by true is = with_whole (t.told is) (sym (some_same new.whole (sight_of new).line (t.whole is)))
    by false is =
        let rests = t.rests is in
        let line : (sight_of new).line ≡ b.whole = ap (λ (s : Sight). s.line) rests ∙ whole in
        let same : new.whole ≡ b.whole = some_same new.whole b.whole (ap (λ (s : Sight). s.whole) rests) in
        let on : t.on ≡ (sight_of b).line = no_more (sight_of b).line t.front.0 t.added t.on t.front.1 (sym (ap (λ (s : Sight). s.line) rests) ∙ t.line) in
        with_whole (on ∙ whole) (line ∙ sym same)

pub took-onward : (b new : Local) (h g : Holding) (c : ℕ) (r : Request) (said : Reply) → (sight_of b).line ≡ b.whole → Took (sight_of (turned b c)) h r (sight_of new) g said → Onward b new
took-onward b new h g c r said whole t =
    let m = moved b new h g c r said whole t in
    record { shown = m.shown; front = (t.added, ap (λ L. L ++ t.added) (sym m.on_whole) ∙ sym t.line ∙ m.shown) }

pub kept-onward : (b new : Local) (c : ℕ) → (sight_of b).line ≡ b.whole → Keeps (sight_of (turned b c)) (sight_of new) → Onward b new
kept-onward b new c whole (inl same) =
    let is : new.whole ≡ b.whole = some_same new.whole b.whole (ap (λ (s : Sight). s.whole) same) in
    record { shown = ap (λ (s : Sight). s.line) same ∙ whole ∙ sym is; front = ([], append-nil b.whole ∙ sym is) }
kept-onward b new c whole (inr look) =
    let is : new.whole ≡ b.whole = some_same new.whole b.whole look.whole in
    record { shown = look.told ∙ sym is; front = ([], append-nil b.whole ∙ sym is) }

-- what is held of a line is held of one that goes on it
longer : (L M : Line) → IsPrefix L M → (h : Holding) → Stands h L → Stands h M
longer L M front h stands = record {
  seen = omega (arith, stands.seen, length-append L front.0, ap length front.1);
  names = All-weaker (λ n. IsPrefix n.1 L) (λ n. IsPrefix n.1 M) (λ n within. on n.1 within) h.names stands.names;
  in_use = on h.in_use stands.in_use;
}
  where
    on : (N : Line) → IsPrefix N L → IsPrefix N M
    on N within = (within.0 ++ front.0, sym (append_assoc N within.0 front.0) ∙ ap (λ x. x ++ front.0) within.1 ∙ front.1)

pub beside-onward : (b new : Local) (hs : List Holding) (c : ℕ) (g : Holding) → AreBeside b hs → Onward b new → Stands g (sight_of new).line → AreBeside new (slice_set hs c g)
beside-onward b new hs c g beside on stands = record {
  each = length-set hs c g ∙ beside.each;
  shown = on.shown;
  stand = All-set (λ h. Stands h new.whole) hs c g (subst (Stands g) on.shown stands)
      (All-weaker (λ h. Stands h b.whole) (λ h. Stands h new.whole) (longer b.whole new.whole on.front) hs beside.stand);
}

-- either way
pub beside-after : (b new : Local) (hs : List Holding) (c : ℕ) (h g : Holding) (r : Request) {A E : Type 0} (said : A → Reply) (o : Result A E) → AreBeside b hs
    → IfOk o (λ x. Took (sight_of (turned b c)) h r (sight_of new) g (said x)) → OnErr o (Keeps (sight_of (turned b c)) (sight_of new)) → Stands g (sight_of new).line
    → AreBeside new (slice_set hs c g)
beside-after b new hs c h g r said (Ok x) beside took kept stands = beside-onward b new hs c g beside (took-onward b new h g c r (said x) beside.shown took) stands
beside-after b new hs c h g r said (Err e) beside took kept stands = beside-onward b new hs c g beside (kept-onward b new c beside.shown kept) stands

-- what the script knows of the caller
held_by : (b : Local) (hs : List Holding) (c : ℕ) (h d : Holding) → c < callers → AreBeside b hs → h ≡ get_or hs c d → steps.state_of (script_of b hs) c ≡ state_of h
held_by b hs c h d within beside is = get_or-map state_of hs c d caller.start (omega (arith, within, beside.each)) ∙ ap state_of (sym is)

pub replied : (b new : Local) (hs : List Holding) (c : ℕ) (h d g : Holding) (r : Request) (said : Reply) → c < callers → AreBeside b hs → h ≡ get_or hs c d
    → Took (sight_of (turned b c)) h r (sight_of new) g said → said ≡ reply b.whole c (steps.state_of (script_of b hs) c) r
replied b new hs c h d g r said within beside is t =
    t.says
    ∙ ap (λ (L : Line). reply L c (state_of h) r) (moved b new h g c r said beside.shown t).on_whole
    ∙ ap (λ (s : caller.State). reply b.whole c s r) (sym (held_by b hs c h d within beside is))

pub went : (b new : Local) (hs : List Holding) (c : ℕ) (h d g : Holding) (r : Request) (said : Reply) → c < callers → AreBeside b hs → h ≡ get_or hs c d
    → Took (sight_of (turned b c)) h r (sight_of new) g said → script_of new (slice_set hs c g) ≡ after (script_of b hs) c r
went b new hs c h d g r said within beside is t =
    let m = moved b new h g c r said beside.shown t in
    let state : state_of g ≡ caller.after b.whole c (steps.state_of (script_of b hs) c) r =
    t.state
    ∙ ap (λ (L : Line). caller.after L c (state_of h) r) m.on_whole
    ∙ ap (λ (s : caller.State). caller.after b.whole c s r) (sym (held_by b hs c h d within beside is)) in
    let all : map state_of (slice_set hs c g) ≡ slice_set (map state_of hs) c (caller.after b.whole c (steps.state_of (script_of b hs) c) r) =
    map-set state_of hs c g ∙ ap (slice_set (map state_of hs) c) state in
    (λ i. record { line = m.line i; callers = all i })

-- at first
abbrev pub at_first : List Holding
at_first = replicate callers (first 0)

first-stands : Stands (first 0) []
first-stands = record { seen = omega arith; names = All-nil (λ n. IsPrefix n.1 []); in_use = ([], refl) }

pub start-beside : (b : Local) (hs : List Holding) → b ≡ record { caller = 0; shown = 0; whole = [] } → hs ≡ at_first → AreBeside b hs
start-beside b hs board each = (rw (board, each) (record {
  each = length-replicate callers (first 0);
  shown = refl;
  stand = All-replicate (λ h. Stands h []) callers (first 0) first-stands;
}))

pub start-script : (b : Local) (hs : List Holding) → b ≡ record { caller = 0; shown = 0; whole = [] } → hs ≡ at_first → script_of b hs ≡ start
start-script b hs board each = rw (board, each) refl
