use Rattle.std.proofs.Common.{◌≡◌, ◌<◌, ◌||◌, ◌++◌, ℕ, List, length, nat_eq, sym, ap, subst, ◌∙◌, arith}
use Rattle.std.specs.Prelude.{slice_index}
use Rattle.std.specs.List.{All, filter, list_any}
use Rattle.std.proofs.lemmas.List.{take_all}
use Rattle.std.proofs.lemmas.List.Folds.{list_any-append, list_any_more}
use Rattle.homology.specs.Sets.{set_of}
use Rattle.homology.specs.Complexes.{simplex_at}
use Rattle.complex_store.specs.Cofaces.{cofaces}
use Rattle.cup_i.specs.Above.{is_kept, kept_cofaces}
use Rattle.cup_i.proofs.AboveLaws.{coface-within, coface-wide}
use Rattle.cup_i.proofs.above.next_level.Goals as goal

pub loop-id-init : goal.loop-id-init
loop-id-init c = λ z. ap (λ (l : List ℕ). set_of l z) c.new-next.ensures.items

pub push_kept-requires-clause-within : goal.push_kept-requires-clause-within
push_kept-requires-clause-within c =
    let K = c.args.k.now in
    subst (All (λ (x : ℕ). x < length K)) (sym (c.deref.ensures.value ∙ c.in_ok-cofaces.ensures)) (coface-within K (slice_index c.args.level.now c.loop-id.id-index))

pub push_kept-requires-clause-wide : goal.push_kept-requires-clause-wide
push_kept-requires-clause-wide c =
    let K = c.args.k.now in
    subst (All (λ (x : ℕ). 1 < length (simplex_at K x))) (sym (c.deref.ensures.value ∙ c.in_ok-cofaces.ensures))
    (coface-wide K (slice_index c.args.level.now c.loop-id.id-index))

pub loop-id-preserved : goal.loop-id-preserved
loop-id-preserved c = λ z.
    let K = c.args.k.now in
    let behind = c.args.behind in
    let i = c.loop-id.id-index in
    let level = c.args.level.now in
    let u = slice_index level i in
    ap (λ (l : List ℕ). set_of l z)
    (c.in_ok-push_kept.ensures ∙ ap (λ l. c.loop-id.next.items ++ filter (is_kept K behind u) l) (c.deref.ensures.value ∙ c.in_ok-cofaces.ensures))
    ∙ list_any-append (λ t. nat_eq z t) c.loop-id.next.items (kept_cofaces K behind u)
    ∙ ap (λ b. b || set_of (kept_cofaces K behind u) z) (c.loop-id.invariant z)
    ∙ sym (list_any_more (λ x. set_of (kept_cofaces K behind x) z) level i 0 c.loop-id-test.true)

pub returns-clause-members : goal.returns-clause-members
returns-clause-members c = λ z.
    let K = c.args.k.now in
    let behind = c.args.behind in
    c.in_order.ensures.same z ∙ c.loop-id.invariant z
    ∙ ap (λ us. list_any (λ u. set_of (kept_cofaces K behind u) z) us) (take_all c.loop-id.id-index c.args.level.now (omega (arith, c.loop-id-test.false)))
