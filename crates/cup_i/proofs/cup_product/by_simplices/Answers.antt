use Rattle.std.proofs.Common.{◌≡◌, ◌+◌, ◌-◌, List, ℕ, map, ap, ◌∙◌, rules}
use Rattle.std.specs.List.{filter}
use Rattle.std.specs.Map.Iter.{deref}
use Rattle.std.proofs.lemmas.Map.Iter.{iter_end}
use Rattle.homology.specs.Sets.{Ids, set_of}
use Rattle.products.specs.Products.{cup}
use Rattle.cochain_values.specs.Marks.{marked}
use Rattle.cochain_values.proofs.MarkLaws.{if_ok-map}
use Rattle.cup_i.proofs.DegreeLaws.{cup-chain}
use Rattle.cup_i.proofs.KeptLaws.{kept-all, kept-ascending}
use Rattle.cup_i.proofs.cup_product.by_simplices.Goals as goal

pub from_ascending-requires : goal.from_ascending-requires
from_ascending-requires c =
    let a : Ids = cup c.args.k.now c.args.i (marked c.args.first.now.marks.items) (marked c.args.second.now.marks.items) in
    let ids = c.of_dimension-simplices.result.now.items in
    let whole : map deref c.loop-id.yielded ≡ ids = search (rules, iter_end) in
    kept-ascending a ids c.deref.result.now c.of_dimension-simplices.ensures.ascending (c.deref.ensures.value ∙ c.loop-id.invariant ∙ ap (filter a) whole)

pub returns : goal.returns
returns c =
    let K = c.args.k.now in
    let p = c.args.first.now.degree in
    let q = c.args.second.now.degree in
    let first = marked c.args.first.now.marks.items in
    let second = marked c.args.second.now.marks.items in
    let a : Ids = cup K c.args.i first second in
    let ids = c.of_dimension-simplices.result.now.items in
    let whole : map deref c.loop-id.yielded ≡ ids = search (rules, iter_end) in
    let all : set_of c.deref.result.now ≡ a =
    kept-all K (p + q - c.args.i) a ids c.deref.result.now
    (cup-chain K c.requires.first.complex c.args.i p q first second c.requires.first.cochain c.requires.second.cochain)
    c.of_dimension-simplices.ensures.ids (c.deref.ensures.value ∙ c.loop-id.invariant ∙ ap (filter a) whole) in
    if_ok-map (λ (d : List ℕ). d ≡ c.deref.result.now) (λ (d : List ℕ). set_of d ≡ a) c.from_ascending.result (λ d e. ap set_of e ∙ all) c.from_ascending.ensures
