use Rattle.std.proofs.Common.{◌≡◌, length, ap, subst, ◌∙◌}
use Rattle.std.specs.Prelude.{IfSome}
use Rattle.homology.specs.Kinds.{ids}
use Rattle.cohomology.proofs.Naming.{betti-essentials}
use Rattle.class_cache.specs.Kept.{own}
use Rattle.class_keeping.specs.Tables.{IsTable}
use Rattle.class_keeping.proofs.TableLaws.{ids-up, listed-own}
use Rattle.class_cache.proofs.ListedChains.{listed-within}
use Rattle.class_keeping.proofs.table.all_cocycles.Goals as goal

pub rows_at-requires : goal.rows_at-requires
rows_at-requires c =
    let fits : length c.in-Some.table.items ≡ length c.args.m.now = subst (λ o. IfSome o (λ t. length t.items ≡ length c.args.m.now)) c.in-Some.is c.in_ok-table.ensures.fits in
    listed-within c.args.m.now c.complex.ensures.complex c.args.degree (length c.deref.result.now) c.args.essential.now c.requires (ap length c.deref.ensures.value ∙ fits)

pub returns-clause-cocycles : goal.returns-clause-cocycles
returns-clause-cocycles c =
    let K = c.args.m.now in
    let p = c.args.degree in
    let made : IsTable K p (length (ids K p)) c.in-Some.table.items =
    subst (λ o. IfSome o (λ t. IsTable K p (length (ids K p)) t.items)) c.in-Some.is c.in_ok-table.ensures.table in
    c.in_ok-rows.ensures.rows (own K p)
    (listed-own K c.complex.ensures.complex p c.args.essential.now c.in-Some.table.items c.deref.result.now c.requires (ids-up K p) c.deref.ensures.value made)

pub returns-clause-count : goal.returns-clause-count
returns-clause-count c = c.in_ok-rows.ensures.count ∙ ap length c.requires ∙ betti-essentials c.args.m.now c.args.degree
