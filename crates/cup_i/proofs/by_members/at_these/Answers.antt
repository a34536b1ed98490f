use Rattle.std.proofs.Common.{◌≡◌, List, ℕ, ap, ◌∙◌, arith}
use Rattle.std.specs.List.{filter}
use Rattle.std.proofs.lemmas.List.{take_all}
use Rattle.homology.specs.Sets.{Ids, set_of}
use Rattle.products.specs.Products.{cup}
use Rattle.cochain_values.specs.Marks.{marked}
use Rattle.cochain_values.proofs.MarkLaws.{if_ok-map}
use Rattle.cup_i.proofs.AboveLaws.{at-these}
use Rattle.cup_i.proofs.KeptLaws.{kept-ascending}
use Rattle.cup_i.proofs.by_members.at_these.Goals as goal

pub from_ascending-requires : goal.from_ascending-requires
from_ascending-requires c =
    let f : Ids = cup c.args.k.now c.args.i (marked c.args.first.now.marks.items) (marked c.args.second.now.marks.items) in
    let ids = c.args.ids.now in
    let whole = take_all c.loop-id.id-index ids (omega (arith, c.loop-id-test.false)) in
    kept-ascending f ids c.deref.result.now c.requires.ascending (c.deref.ensures.value ∙ c.loop-id.invariant ∙ ap (filter f) whole)

pub returns : goal.returns
returns c =
    let f : Ids = cup c.args.k.now c.args.i (marked c.args.first.now.marks.items) (marked c.args.second.now.marks.items) in
    let ids = c.args.ids.now in
    let whole = take_all c.loop-id.id-index ids (omega (arith, c.loop-id-test.false)) in
    let all : set_of c.deref.result.now ≡ f = at-these f ids c.deref.result.now c.requires.all (c.deref.ensures.value ∙ c.loop-id.invariant ∙ ap (filter f) whole) in
    if_ok-map (λ (d : List ℕ). d ≡ c.deref.result.now) (λ (d : List ℕ). set_of d ≡ f) c.from_ascending.result (λ d e. ap set_of e ∙ all) c.from_ascending.ensures
