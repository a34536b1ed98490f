use Rattle.std.proofs.Common.{◌≡◌, ◌<◌, ℕ, zero, suc, [], ◌∷◌, length, refl, ap, ◌∙◌, arith}
use Rattle.std.specs.Prelude.{slice_index_or}
use Rattle.homology.specs.Complexes.{dim}
use Rattle.homology.specs.Sets.{set_of}
use Rattle.cohomology.proofs.Naming.{betti-essentials, essential-at}
use Rattle.class_solver.proofs.AlongPhi.{number-at}
use Rattle.class_keeping.proofs.KeepLaws.{IsKept-set, own-found}
use Rattle.class_keeping.proofs.keeping.keep_one.Goals as goal

pub index-simplex-requires : goal.index-simplex-requires
index-simplex-requires c =
    omega (arith, c.requires.number, ap length c.requires.kept.essential, betti-essentials c.args.m.now c.args.kept.now.degree, c.args.kept.now.essential.ok.0)

pub cocycle-requires-clause-within : goal.cocycle-requires-clause-within
cocycle-requires-clause-within c = at
  where
    at : (k d : ℕ) → k < 1 → slice_index_or {A = ℕ} (c.index-simplex.result.now ∷ []) k d < length c.args.m.now
    at zero d lt = omega (
      arith,
      number-at c.args.m.now c.args.kept.now.degree c.args.kept.now.degree c.args.kept.now.essential.items c.args.number c.index-simplex.result.now c.requires.kept.essential refl
          (omega (arith, c.requires.number, ap length c.requires.kept.essential, betti-essentials c.args.m.now c.args.kept.now.degree)) c.index-simplex.ensures,
      (essential-at c.args.m.now c.args.kept.now.degree c.args.number c.requires.number).1,
    )
    at (suc k) d lt = absurd (omega (arith, lt))

pub cocycle-requires-clause-degree : goal.cocycle-requires-clause-degree
cocycle-requires-clause-degree c = at
  where
    at : (k d : ℕ) → k < 1 → dim c.args.m.now (slice_index_or {A = ℕ} (c.index-simplex.result.now ∷ []) k d) ≡ c.args.kept.now.degree
    at zero d lt =
        ap (dim c.args.m.now)
        (number-at c.args.m.now c.args.kept.now.degree c.args.kept.now.degree c.args.kept.now.essential.items c.args.number c.index-simplex.result.now c.requires.kept.essential refl
        (omega (arith, c.requires.number, ap length c.requires.kept.essential, betti-essentials c.args.m.now c.args.kept.now.degree)) c.index-simplex.ensures)
        ∙ (essential-at c.args.m.now c.args.kept.now.degree c.args.number c.requires.number).2
    at (suc k) d lt = absurd (omega (arith, lt))

pub returns-then-more-saturating_sub : goal.returns-then-more-saturating_sub
returns-then-more-saturating_sub c = c.requires.kept

pub returns : goal.returns
returns c =
    let K = c.args.m.now in
    let k = c.args.kept.now in
    let own = own-found K c.requires.kept.complex k.degree c.args.number c.index-simplex.result.now (set_of c.in_ok-cocycle.cocycle) c.requires.number
    (number-at K k.degree k.degree k.essential.items c.args.number c.index-simplex.result.now c.requires.kept.essential refl
    (omega (arith, c.requires.number, ap length c.requires.kept.essential, betti-essentials K k.degree)) c.index-simplex.ensures)
    c.in_ok-cocycle.ensures in
    IsKept-set K k _ c.args.number c.in_ok-cocycle.cocycle c.requires.kept refl refl c.requires.number refl own refl refl
