use Rattle.std.proofs.Common.{◌≡◌, ℕ, ◌<◌, ◌≤◌, List, [], ◌∷◌, ◌++◌, Option, Some, None, length, slice_set, sym, ap, subst, ◌∙◌, arith, length-append}
use Rattle.std.specs.Option.{option_to_list}
use Rattle.std.proofs.lemmas.List.{append-nil, set-append_left}
use Rattle.std.proofs.Math.Seq.{set-append_seam}
use Rattle.std.proofs.lemmas.Result.{on_ok_weaker}
use Rattle.share_rows.specs.Tables.{held}
use Rattle.share_rows.proofs.rows.Rows.set.Goals as goal

-- a place past the list xs is that of the one item after it
set_late : {X : Type 0} (xs : List X) (late : Option X) (k : ℕ) (y : X) → length xs ≤ k → k < length (xs ++ option_to_list late) → xs ++ y ∷ [] ≡ slice_set (xs ++ option_to_list late) k y
set_late xs None k y past h = absurd (omega (arith, ap length (append-nil xs)))
set_late xs (Some x) k y past h =
    let is : length xs ≡ k = omega (arith, length-append xs (x ∷ [])) in
    subst (λ i. xs ++ y ∷ [] ≡ slice_set (xs ++ x ∷ []) i y) is (sym (set-append_seam xs x [] y))

pub returns-then-k-count-clause-set : goal.returns-then-k-count-clause-set
returns-then-k-count-clause-set g c =
    let xs = held c.self.inside.tree in
    let late = option_to_list c.self.inside.late in
    let h : c.args.k < length xs = omega arith in
    on_ok_weaker c.replace.result (λ e. ap (λ z. z ++ late) e ∙ sym (set-append_left xs late c.args.k c.args.item h) ∙ ap (λ t. slice_set t.items c.args.k c.args.item) c.self.view_is) c.replace.ensures.set

pub returns-clause-set : goal.returns-clause-set
returns-clause-set g c =
    let xs = held c.self.inside.tree in
    let past : length xs ≤ c.args.k = omega arith in
    let h = subst (λ t. c.args.k < length t.items) (sym c.self.view_is) c.requires in
    set_late xs c.self.inside.late c.args.k c.args.item past h ∙ ap (λ t. slice_set t.items c.args.k c.args.item) c.self.view_is
