use Rattle.std.proofs.Common.{ℕ, ◌-◌, sym, subst, arith}
use Rattle.wu_classes.specs.Duals.{IsPairing}
use Rattle.wu_classes.proofs.Turned.{columns-pairing, pairing-widths}
use Rattle.wu_classes.proofs.pairing_rows.all_rows.Goals as goal

pub columns-requires : goal.columns-requires
columns-requires c =
    let K = c.args.m.now in
    let q = c.args.n - c.args.p in
    let g = c.index-bases-n.result in
    pairing-widths K q g (subst (IsPairing K q) (sym c.index-bases-n.is) (c.requires.earlier q g (omega arith)))

pub returns-then-n-p : goal.returns-then-n-p
returns-then-n-p c =
    let K = c.args.m.now in
    let p = c.args.p in
    let q = c.args.n - p in
    let g = c.index-bases-n.result in
    let T = c.requires.top in
    let P : IsPairing K q g = subst (IsPairing K q) (sym c.index-bases-n.is) (c.requires.earlier q g (omega arith)) in
    let E = c.in_ok-rows.ensures in
    columns-pairing K c.complex-complex.ensures.complex c.args.n T.closed p (omega (arith, c.requires.degree, T.top)) g
    (subst (λ (n : ℕ). IsPairing K (n - p) g) (sym T.top) P) c.in_ok-rows.rows.items E.count E.widths E.entries
