use Rattle.std.proofs.Common.{◌+◌, ◌-◌, ℕ, Bool, length, nat_eq, sym, ◌∙◌, arith}
use Rattle.std.specs.List.{range_with_len}
use Rattle.std.proofs.lemmas.Bool.{not-true, not-false}
use Rattle.std.proofs.lemmas.List.{get_or_default}
use Rattle.homology.specs.Complexes.{simplex_at}
use Rattle.manifolds.specs.Closed.{times}
use Rattle.manifold_links.specs.Covers.{is_covered}
use Rattle.manifold_links.proofs.CountedLaws.{counted-in, counted-out, faces-once, from-few, from-late}
use Rattle.manifold_links.proofs.FirstLaws.{first-down, first-out}
use Rattle.manifold_links.proofs.cover.count_down.Goals as goal

pub is_covered-requires-clause-counted : goal.is_covered-requires-clause-counted
is_covered-requires-clause-counted c =
    let K = c.args.k.now in
    c.requires.later c.args.id c.requires.there ∙ from-late K c.requires.complex (is_covered K) c.args.id c.requires.there (c.args.id + 1) (omega arith)

pub count_all-requires-clause-small : goal.count_all-requires-clause-small
count_all-requires-clause-small c = λ q d h.
    let K = c.args.k.now in
    omega (
      arith,
      get_or_default c.args.counts.now q d 0 h,
      c.requires.later q (omega (arith, h, c.requires.fits)),
      from-few K (is_covered K) (c.args.id + 1) q,
      c.requires.small,
      c.faces.ensures.few,
    )

pub returns-then-is_covered-clause-down : goal.returns-then-is_covered-clause-down
returns-then-is_covered-clause-down c =
    let K = c.args.k.now in
    counted-in K (is_covered K) c.args.id c.args.counts.now c.count_all.new.counts c.faces.result.now c.requires.there (sym c.is_covered.ensures ∙ c.if-is_covered.true)
    c.requires.later c.count_all.ensures.counted
    (faces-once K c.requires.complex c.args.id c.requires.there c.faces.result.now c.faces.ensures.faces c.faces.ensures.boundary)

pub returns-clause-down : goal.returns-clause-down
returns-clause-down c =
    let K = c.args.k.now in
    counted-out K (is_covered K) c.args.id c.args.counts.now c.requires.there (sym c.is_covered.ensures ∙ c.if-is_covered.false) c.requires.later

pub returns-then-is_covered-clause-first : goal.returns-then-is_covered-clause-first
returns-then-is_covered-clause-first c =
    let K = c.args.k.now in
    let id = c.args.id in
    let test : ℕ → Bool = λ x. nat_eq (times K (simplex_at K x)) 0 in
    first-down K test id (length K) c.args.first c.requires.there
    (first-out K test (range_with_len (id + 1) (length K - (id + 1))) id c.args.first (not-true (test id) (sym c.is_covered.ensures ∙ c.if-is_covered.true)) c.requires.first)

pub returns-clause-first : goal.returns-clause-first
returns-clause-first c =
    let K = c.args.k.now in
    let id = c.args.id in
    let test : ℕ → Bool = λ x. nat_eq (times K (simplex_at K x)) 0 in
    first-down K test id (length K) c.with_next.result c.requires.there
    (c.with_next.ensures.first test (range_with_len (id + 1) (length K - (id + 1))) (not-false (test id) (sym c.is_covered.ensures ∙ c.if-is_covered.false)) c.requires.first)
