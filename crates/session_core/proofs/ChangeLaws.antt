-- Changes that a session asks for, by what its board answers. The session was `was`, which is h; what it has seen is all that changes,
-- but for the version that a cut takes into use.
--     faceted, was-cut                   facets, and a cut, that came in
--     added-nothing                      no facets
--     declined                           a change that was refused
--     made-stands, cut-stands, declined-stands      all that is held is of the line then
--     cut-took, brought-stands           of a session that was brought the root of the cut
use Rattle.std.proofs.Common.{◌≡◌, ℕ, List, [], ◌++◌, length, Option, Some, None, refl, sym, ap, ◌∙◌, subst}
use Rattle.language.specs.Language.{Request, Cut, Facet}
use Rattle.lines.specs.Lines.{Line, IsLegal, cuts}
use Rattle.lines.specs.Changes.{Change, Refusal}
use Rattle.lines.specs.Changes as change
use Rattle.transcript.specs.Replies.{Reply, Faceted, WasCut}
use Rattle.version_roots.specs.declared.receipts.CutReceipt.{CutReceipt}
use Rattle.version_roots.specs.Boards.{Sight, Looks, Makes, Done, Declines}
use Rattle.version_roots.specs.Judged.{IsCutReceipt}
use Rattle.session_core.specs.Holdings.{Holding, Stands, state_of}
use Rattle.session_core.specs.Steps.{IsRefused, Took}
use Rattle.session_core.proofs.FrontLaws.{stands-brought, stands-seen}
use Rattle.session_core.proofs.StepLaws.{Asks, asks-cut, asks-facet, declined-front, made-front, made-nothing, took-made, took-refused}

-- a session that has seen so much
seen-state : (was h : Holding) (n m : ℕ) → was ≡ h → n ≡ m → state_of (record was { seen = n }) ≡ record (state_of h) { seen = m }
seen-state was h n m is same = ap (λ (g : Holding). record (state_of g) { seen = n }) is ∙ ap (λ (k : ℕ). record (state_of h) { seen = k }) same

pub faceted : (a b : Sight) (was h : Holding) (F : List (List ℕ)) (J : Line) (added entries : ℕ) → was ≡ h → (m : Makes a (change.Facet F) b J)
    → added ≡ length m.added.entries → entries ≡ length b.line → Took a h (Facet F) b (record was { seen = entries }) (Faceted added entries)
faceted a b was h F J added entries is m count end =
    let all : entries ≡ length (J ++ m.added.entries) = end ∙ ap length m.added.whole in
    took-made a b h (record was { seen = entries }) (Facet F) (change.Facet F) J (Faceted added entries) (asks-facet F) m
    (seen-state was h entries _ is all)
    (ap (λ n. Faceted n entries) count ∙ ap (Faceted (length m.added.entries)) all)

pub added-nothing : (a b : Sight) (was h : Holding) (entries : ℕ) → was ≡ h → Looks a b → IsLegal b.line → entries ≡ length b.line
    → Took a h (Facet []) b (record was { seen = entries }) (Faceted 0 entries)
added-nothing a b was h entries is look legal end = faceted a b was h [] b.line 0 entries is (made-nothing a b look legal) refl end

pub was-cut : (a b : Sight) (was h : Holding) (r : CutReceipt) → was ≡ h → Done a change.Cut b (λ _. IsCutReceipt b.line r)
    → Took a h Cut b (record was { seen = r.entries; in_use = r.root }) (WasCut r.version r.entries)
was-cut a b was h r is done =
    let whole = done.makes.added.whole in
    let all : r.entries ≡ length (done.on ++ done.makes.added.entries) = done.says.entries ∙ ap length whole in
    let made : r.version ≡ cuts (done.on ++ done.makes.added.entries) = done.says.version ∙ ap cuts whole in
    let used : cuts r.root ≡ cuts (done.on ++ done.makes.added.entries) = ap cuts (done.says.root ∙ whole) in
    took-made a b h (record was { seen = r.entries; in_use = r.root }) Cut change.Cut done.on (WasCut r.version r.entries) asks-cut done.makes
    (ap (λ (g : Holding). record (state_of g) { seen = r.entries; in_use = cuts r.root }) is
    ∙ ap (λ (n : ℕ). record (state_of h) { seen = n; in_use = cuts r.root }) all
    ∙ ap (λ (n : ℕ). record (state_of h) { seen = length (done.on ++ done.makes.added.entries); in_use = n }) used)
    (ap (λ n. WasCut n r.entries) made ∙ ap (WasCut (cuts (done.on ++ done.makes.added.entries))) all)

pub declined : (a b : Sight) (was h : Holding) (r : Request) (x : Change) (o : Option Refusal) (said : Reply) (n : ℕ) → Asks r x → was ≡ h → Declines a x b o
    → IsRefused o said → n ≡ length b.line → Took a h r b (record was { seen = n }) said
declined a b was h r x (Some why) said n asks is refuses so end = took-refused a b h (record was { seen = n }) r x why said asks refuses (seen-state was h n _ is end) so
declined a b was h r x None said n asks is refuses so end = absurd so

pub made-stands : (a b : Sight) (was h : Holding) (x : Change) (J : Line) (n : ℕ) → was ≡ h → Stands h a.line → Makes a x b J → n ≡ length b.line
    → Stands (record was { seen = n }) b.line
made-stands a b was h x J n is S m end = stands-seen was a.line b.line n (subst (λ g. Stands g a.line) (sym is) S) (made-front a b x J m) end

pub cut-stands : (a b : Sight) (was h : Holding) (J K : Line) (n : ℕ) → was ≡ h → Stands h a.line → Makes a change.Cut b J → n ≡ length b.line → K ≡ b.line
    → Stands (record was { seen = n; in_use = K }) b.line
cut-stands a b was h J K n is S m end used =
    subst (λ (M : Line). Stands (record was { seen = n; in_use = M }) b.line) (sym used)
    (stands-brought was a.line b.line n (subst (λ g. Stands g a.line) (sym is) S) (made-front a b change.Cut J m) end)

pub declined-stands : (a b : Sight) (was h : Holding) (x : Change) (o : Option Refusal) (n : ℕ) → was ≡ h → Stands h a.line → Declines a x b o → n ≡ length b.line
    → Stands (record was { seen = n }) b.line
declined-stands a b was h x o n is S refuses end = stands-seen was a.line b.line n (subst (λ g. Stands g a.line) (sym is) S) (declined-front a b x o refuses) end

-- a session that was brought the root of a cut
pub cut-took : (a b : Sight) (was h : Holding) (r : CutReceipt) → was ≡ record h { in_use = r.root } → Done a change.Cut b (λ _. IsCutReceipt b.line r)
    → Took a h Cut b (record was { seen = r.entries }) (WasCut r.version r.entries)
cut-took a b was h r is done =
    subst (λ (g : Holding). Took a h Cut b g (WasCut r.version r.entries)) (sym (ap (λ (g : Holding). record g { seen = r.entries }) is)) (was-cut a b h h r refl done)

pub brought-stands : (a b : Sight) (was h : Holding) (r : CutReceipt) → was ≡ record h { in_use = r.root } → Stands h a.line → (d : Done a change.Cut b (λ _. IsCutReceipt b.line r))
    → Stands (record was { seen = r.entries }) b.line
brought-stands a b was h r is S d =
    subst (λ (g : Holding). Stands g b.line) (sym (ap (λ (g : Holding). record g { seen = r.entries }) is))
    (cut-stands a b h h d.on r.root r.entries refl S d.makes d.says.entries d.says.root)
