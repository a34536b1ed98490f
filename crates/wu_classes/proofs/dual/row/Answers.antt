use Rattle.std.proofs.Common.{◌≡◌, ◌-◌, length, ap, subst, ◌∙◌, arith}
use Rattle.std.specs.Prelude.{IfSome, slice_index_or}
use Rattle.homology.specs.Kinds.{betti}
use Rattle.characteristic_classes.specs.Pairings.{pairing}
use Rattle.characteristic_classes.proofs.PairingLaws.{pairing-count, pairing-row, row-width}
use Rattle.wu_classes.proofs.dual.row.Goals as goal

pub index-requires : goal.index-requires
index-requires c =
    let K = c.args.m.now in
    let p = c.args.p in
    let rows : c.in-Some.rows.items ≡ pairing K p = subst (λ o. IfSome o (λ rs. rs.items ≡ pairing K p)) c.in-Some.is c.requires.rows in
    omega (arith, c.requires.number, ap length rows, pairing-count K p, c.in-Some.rows.ok.0)

pub returns-in_ok-row-in-Some-clause-row : goal.returns-in_ok-row-in-Some-clause-row
returns-in_ok-row-in-Some-clause-row c =
    let K = c.args.m.now in
    let p = c.args.p in
    let rows : c.in-Some.rows.items ≡ pairing K p = subst (λ o. IfSome o (λ rs. rs.items ≡ pairing K p)) c.in-Some.is c.requires.rows in
    c.in_ok-row-in-Some.ensures
    ∙ c.index.ensures
    ∙ ap (λ l. slice_index_or l c.args.number c.index.result.now) rows
    ∙ pairing-row K p c.args.number c.index.result.now c.requires.number

pub returns-in_ok-row-in-Some-clause-width : goal.returns-in_ok-row-in-Some-clause-width
returns-in_ok-row-in-Some-clause-width c =
    let K = c.args.m.now in
    let p = c.args.p in
    ap length (returns-in_ok-row-in-Some-clause-row c) ∙ row-width K p c.args.number ∙ ap (λ n. betti K (n - p)) c.requires.top.top
