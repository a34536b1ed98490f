use Rattle.std.proofs.Common.{◌<◌, ◌+◌, ◌++◌, ℕ, List, length, take, nat_eq, replicate, refl, sym, ap, subst, ◌∙◌, arith, append-nil}
use Rattle.std.specs.Prelude.{count_by, slice_index, slice_set}
use Rattle.std.proofs.lemmas.List.{take_all, length-set}
use Rattle.manifolds.proofs.LinkLaws.{set_of-at}
use Rattle.manifold_links.specs.Entries.{AreLaid}
use Rattle.manifold_links.proofs.EntryLaws.{ends-more, entry-fits, laid-entered, laid-same}
use Rattle.manifold_links.proofs.entries.enter_all.Goals as goal

pub enter-requires-clause-there : goal.enter-requires-clause-there
enter-requires-clause-there c =
    let xs = c.args.lists.now in
    let i = c.loop-list.list-index in
    omega (arith, c.loop-list.invariant.fits_ends, (c.requires (slice_index xs i) (set_of-at xs i c.loop-list-test.true)).0)

pub enter-requires-clause-room : goal.enter-requires-clause-room
enter-requires-clause-room c =
    let xs = c.args.lists.now in
    let i = c.loop-list.list-index in
    let x = slice_index xs i in
    entry-fits c.loop-list.ends c.args.ends.now xs i x (length c.loop-list.ids) c.loop-list-test.true refl (c.loop-list.invariant.ends x)
    (omega (arith, c.loop-list.invariant.fits_ids, (c.requires x (set_of-at xs i c.loop-list-test.true)).1))

pub loop-list-init : goal.loop-list-init
loop-list-init c = record {
  fits_ends = refl;
  fits_ids = refl;
  ends = λ x. omega arith;
  laid = λ n S L A within room. laid-same n S L (λ x. L x ++ replicate 0 c.args.id) c.args.ends.now c.args.ids.now (λ x. sym (append-nil (L x))) A;
}

pub loop-list-preserved : goal.loop-list-preserved
loop-list-preserved c =
    let xs = c.args.lists.now in
    let i = c.loop-list.list-index in
    let x = slice_index xs i in
    let ends = c.loop-list.ends in
    let ids = c.loop-list.ids in
    let there : x < length ends = omega (arith, c.loop-list.invariant.fits_ends, (c.requires x (set_of-at xs i c.loop-list-test.true)).0) in
    record {
      fits_ends = ap length c.enter.ensures.ends ∙ length-set ends x (slice_index ends x + 1) ∙ c.loop-list.invariant.fits_ends;
      fits_ids = ap length c.enter.ensures.ids ∙ length-set ids (slice_index ends x) c.args.id ∙ c.loop-list.invariant.fits_ids;
      ends = λ y.
          ap (λ (l : List ℕ). slice_index l y) c.enter.ensures.ends ∙ ends-more ends c.args.ends.now xs i x c.loop-list-test.true refl there c.loop-list.invariant.ends y;
      laid = λ n S L A within room.
          let M : ℕ → List ℕ = λ y. L y ++ replicate (count_by (λ z. nat_eq y z) (take (i + 1) xs)) c.args.id in
          subst (λ (l : List ℕ). AreLaid n S M l c.enter.new.ids) (sym c.enter.ensures.ends)
          (subst (λ (l : List ℕ). AreLaid n S M (slice_set ends x (slice_index ends x + 1)) l) (sym c.enter.ensures.ids)
          (laid-entered n S L ends ids xs i x c.args.id c.loop-list-test.true refl (within i 0 c.loop-list-test.true) (c.loop-list.invariant.laid n S L A within room) room));
    }

pub returns-clause-laid : goal.returns-clause-laid
returns-clause-laid c = λ n S L A within room.
    subst (λ (l : List ℕ). AreLaid n S (λ x. L x ++ replicate (count_by (λ y. nat_eq x y) l) c.args.id) c.loop-list.ends c.loop-list.ids)
    (take_all c.loop-list.list-index c.args.lists.now (omega (arith, c.loop-list-test.false)))
    (c.loop-list.invariant.laid n S L A within room)
