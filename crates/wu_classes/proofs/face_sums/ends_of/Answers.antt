use Rattle.std.proofs.Common.{◌≡◌, ℕ, ◌+◌, ◌-◌, List, [], length, take, drop, sym, ap, subst, ◌∙◌, arith}
use Rattle.std.specs.Prelude.{slice_index_or}
use Rattle.homology.specs.Sets.{set_of}
use Rattle.homology.specs.Complexes.{simplex_at}
use Rattle.at_model.specs.Maps.{IsF}
use Rattle.class_cache.proofs.ListedChains.{f-within, item-any}
use Rattle.wu_classes.proofs.SumLaws.{ends-are}
use Rattle.wu_classes.proofs.face_sums.ends_of.Goals as goal

pub returns-clause-ends : goal.returns-clause-ends
returns-clause-ends c =
    let K = c.args.k.now in
    let maps = c.args.maps.now in
    let p = c.args.p in
    let S : List ℕ = simplex_at K c.args.x in
    let front = c.front-front.result in
    let back = c.back-back.result in
    let long : length S ≡ c.args.n + 1 = omega (arith, c.requires.dimension, (c.len.ensures.complex.simplices c.args.x c.requires.there).nonempty) in
    let cut : length S - c.from.result ≡ p + 1 = omega (arith, long, c.from.ensures, c.requires.degree) in
    let same_front : c.index-maps-front.result ≡ slice_index_or maps front [] =
    c.index-maps-front.is ∙ item-any maps front c.index-maps-front.result [] (omega (arith, c.front-front.ensures.there, c.requires.maps.count)) in
    let same_back : c.index-maps-back.result ≡ slice_index_or maps back [] =
    c.index-maps-back.is ∙ item-any maps back c.index-maps-back.result [] (omega (arith, c.back-back.ensures.there, c.requires.maps.count)) in
    ends-are K c.len.ensures.complex p c.args.x front back c.index-maps-front.result c.index-maps-back.result
    c.front-front.ensures.there c.back-back.ensures.there
    (c.front-front.ensures.face ∙ ap (λ m. take m S) cut)
    (c.back-back.ensures.face ∙ ap (λ m. drop m S) c.from-2.ensures)
    (subst (λ (l : List ℕ). IsF K front (set_of l)) (sym same_front) (c.requires.maps.each front c.front-front.ensures.there))
    (subst (λ (l : List ℕ). IsF K back (set_of l)) (sym same_back) (c.requires.maps.each back c.back-back.ensures.there))

pub returns-clause-within : goal.returns-clause-within
returns-clause-within c =
    let K = c.args.k.now in
    let maps = c.args.maps.now in
    let front = c.front-front.result in
    let same : c.index-maps-front.result ≡ slice_index_or maps front [] =
    c.index-maps-front.is ∙ item-any maps front c.index-maps-front.result [] (omega (arith, c.front-front.ensures.there, c.requires.maps.count)) in
    f-within K c.len.ensures.complex front (slice_index_or maps front []) c.index-maps-front.result c.front-front.ensures.there
    (c.requires.maps.each front c.front-front.ensures.there) same
