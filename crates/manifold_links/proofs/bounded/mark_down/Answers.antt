use Rattle.std.proofs.Common.{◌+◌, true, not, cond, nat_eq, refl, sym, ap, ◌∙◌, arith}
use Rattle.std.proofs.lemmas.List.{get_or_default}
use Rattle.cochain_values.specs.Marks.{marked}
use Rattle.manifold_links.specs.Counts.{is_bounded}
use Rattle.manifold_links.proofs.CountedLaws.{counted-in, faces-once, from-few, from-late}
use Rattle.manifold_links.proofs.MarkedLaws.{marked-in, marked-out}
use Rattle.manifold_links.proofs.bounded.mark_down.Goals as goal

pub is_bounded-bounded-requires-clause-counted : goal.is_bounded-bounded-requires-clause-counted
is_bounded-bounded-requires-clause-counted c =
    let K = c.args.k.now in
    c.requires.later.counted c.args.id c.requires.there ∙ from-late K c.requires.complex (λ t. true) c.args.id c.requires.there (c.args.id + 1) (omega arith)

pub is_bounded-bounded-requires-clause-marked : goal.is_bounded-bounded-requires-clause-marked
is_bounded-bounded-requires-clause-marked c =
    let K = c.args.k.now in
    c.requires.later.early c.args.id (omega arith) c.requires.there
    ∙ ap (λ n. nat_eq n 0) (from-late K c.requires.complex (λ t. not (is_bounded K t)) c.args.id c.requires.there (c.args.id + 1) (omega arith))

pub count_all-requires-clause-small : goal.count_all-requires-clause-small
count_all-requires-clause-small c = λ q d h.
    let K = c.args.k.now in
    omega (
      arith,
      get_or_default c.args.counts.now q d 0 h,
      c.requires.later.counted q (omega (arith, h, c.requires.later.fits_counts)),
      from-few K (λ t. true) (c.args.id + 1) q,
      c.requires.small,
      c.faces-faces.ensures.few,
    )

pub returns-then-not-bounded : goal.returns-then-not-bounded
returns-then-not-bounded c =
    let K = c.args.k.now in
    let id = c.args.id in
    let marks = c.args.marks.now in
    let ids = c.faces-faces.result.now in
    marked-out K c.requires.complex id c.requires.there c.args.counts.now marks c.requires.later c.count_all.new.counts
    (counted-in K (λ t. true) id c.args.counts.now c.count_all.new.counts ids c.requires.there refl c.requires.later.counted c.count_all.ensures.counted
    (faces-once K c.requires.complex id c.requires.there ids c.faces-faces.ensures.faces c.faces-faces.ensures.boundary))
    (c.count_all.ensures.fits ∙ c.requires.later.fits_counts)
    ids c.set.new.marks c.unmark_all.new.marks c.faces-faces.ensures.boundary (sym c.is_bounded-bounded.ensures ∙ c.if-not-bounded.true)
    (λ q. c.set.ensures.set q ∙ ap (λ b. cond (nat_eq q id) b (marked marks q)) c.if-not-bounded.true)
    c.unmark_all.ensures.set (c.unmark_all.ensures.fits ∙ c.set.ensures.fits ∙ c.requires.later.fits_marks)

pub returns-else-not-bounded : goal.returns-else-not-bounded
returns-else-not-bounded c =
    let K = c.args.k.now in
    let id = c.args.id in
    let marks = c.args.marks.now in
    let ids = c.faces-faces.result.now in
    marked-in K c.requires.complex id c.requires.there c.args.counts.now marks c.requires.later c.count_all.new.counts
    (counted-in K (λ t. true) id c.args.counts.now c.count_all.new.counts ids c.requires.there refl c.requires.later.counted c.count_all.ensures.counted
    (faces-once K c.requires.complex id c.requires.there ids c.faces-faces.ensures.faces c.faces-faces.ensures.boundary))
    (c.count_all.ensures.fits ∙ c.requires.later.fits_counts)
    c.set.new.marks (sym c.is_bounded-bounded.ensures ∙ c.if-not-bounded.false)
    (λ q. c.set.ensures.set q ∙ ap (λ b. cond (nat_eq q id) b (marked marks q)) c.if-not-bounded.false)
    (c.set.ensures.fits ∙ c.requires.later.fits_marks)
