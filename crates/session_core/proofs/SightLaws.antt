-- Requests that look at the line and change nothing of it, by what the board answers. The session was `was`, which is h.
--     seen-took              the last version seen comes into use
--     after-took             the same where as many entries are seen as are wanted
--     not-yet-took           where fewer are seen
--     look-stands, see-stands      all that is held is of the line then
use Rattle.std.proofs.Common.{◌≡◌, ℕ, ◌<◌, ◌≤◌, Bool, true, false, cond, length, refl, sym, ap, ◌∙◌, subst, le-leb}
use Rattle.std.specs.Prelude.{nat_le}
use Rattle.std.proofs.lemmas.Bool.{lt-leb}
use Rattle.language.specs.Language.{After, See}
use Rattle.lines.specs.Lines.{Line, cuts}
use Rattle.transcript.specs.Replies.{NotYet, Seen, SeenFrom}
use Rattle.version_roots.specs.Boards.{Sight, Looks}
use Rattle.session_core.specs.Holdings.{Holding, Stands, state_of}
use Rattle.session_core.specs.Steps.{Took}
use Rattle.session_core.proofs.FrontLaws.{stands-brought, stands-seen}
use Rattle.session_core.proofs.StepLaws.{took-look}

-- a session that has seen the line, and uses its last version
sees-state : (was h : Holding) (K L : Line) (n : ℕ) → was ≡ record h { in_use = K } → K ≡ L → n ≡ length L
    → state_of (record was { seen = n }) ≡ record (state_of h) { seen = length L; in_use = cuts L }
sees-state was h K L n is same end =
    ap (λ (g : Holding). record (state_of g) { seen = n }) is
    ∙ ap (λ (M : Line). record (state_of h) { seen = n; in_use = cuts M }) same
    ∙ ap (λ (k : ℕ). record (state_of h) { seen = k; in_use = cuts L }) end

pub seen-took : (a b : Sight) (was h : Holding) (K : Line) (n v : ℕ) → was ≡ record h { in_use = K } → Looks a b → K ≡ b.line → n ≡ length b.line → v ≡ cuts b.line
    → Took a h See b (record was { seen = n }) (Seen v n)
seen-took a b was h K n v is look same end made =
    took-look a b h (record was { seen = n }) See (Seen v n) refl refl look (sees-state was h K b.line n is same end)
    (ap (λ (w : ℕ). Seen w n) made ∙ ap (Seen (cuts b.line)) end)

pub after-took : (a b : Sight) (was h : Holding) (K : Line) (n v wanted : ℕ) → was ≡ record h { in_use = K } → Looks a b → K ≡ b.line → n ≡ length b.line → v ≡ cuts b.line
    → wanted ≤ n → Took a h (After wanted) b (record was { seen = n }) (SeenFrom v n)
after-took a b was h K n v wanted is look same end made enough =
    let fits : nat_le wanted (length b.line) ≡ true = le-leb wanted (length b.line) (subst (λ k. wanted ≤ k) end enough) in
    took-look a b h (record was { seen = n }) (After wanted) (SeenFrom v n) refl refl look
    (sees-state was h K b.line n is same end
    ∙ ap (λ (b2 : Bool). cond b2 (record (state_of h) { seen = length b.line; in_use = cuts b.line }) (record (state_of h) { seen = length b.line })) (sym fits))
    (ap (λ (w : ℕ). SeenFrom w n) made ∙ ap (SeenFrom (cuts b.line)) end
    ∙ ap (λ (b2 : Bool). cond b2 (SeenFrom (cuts b.line) (length b.line)) (NotYet (length b.line))) (sym fits))

pub not-yet-took : (a b : Sight) (was h : Holding) (n wanted : ℕ) → was ≡ h → Looks a b → n ≡ length b.line → n < wanted
    → Took a h (After wanted) b (record was { seen = n }) (NotYet n)
not-yet-took a b was h n wanted is look end few =
    let short : nat_le wanted (length b.line) ≡ false = lt-leb wanted (length b.line) (subst (λ k. k < wanted) end few) in
    took-look a b h (record was { seen = n }) (After wanted) (NotYet n) refl refl look
    (ap (λ (g : Holding). record (state_of g) { seen = n }) is ∙ ap (λ (k : ℕ). record (state_of h) { seen = k }) end
    ∙ ap (λ (b2 : Bool). cond b2 (record (state_of h) { seen = length b.line; in_use = cuts b.line }) (record (state_of h) { seen = length b.line })) (sym short))
    (ap NotYet end ∙ ap (λ (b2 : Bool). cond b2 (SeenFrom (cuts b.line) (length b.line)) (NotYet (length b.line))) (sym short))

pub look-stands : (a b : Sight) (was h : Holding) (n : ℕ) → was ≡ h → Stands h a.line → Looks a b → n ≡ length b.line → Stands (record was { seen = n }) b.line
look-stands a b was h n is S look end = stands-seen was a.line b.line n (subst (λ g. Stands g a.line) (sym is) S) look.front end

pub see-stands : (a b : Sight) (was h : Holding) (K : Line) (n : ℕ) → was ≡ record h { in_use = K } → Stands h a.line → Looks a b → K ≡ b.line → n ≡ length b.line
    → Stands (record was { seen = n }) b.line
see-stands a b was h K n is S look same end =
    subst (λ g. Stands (record g { seen = n }) b.line) (sym (is ∙ ap (λ (M : Line). record h { in_use = M }) same))
    (stands-brought h a.line b.line n S look.front end)
