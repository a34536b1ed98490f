use Rattle.products.specs.Products.{cup}
use Rattle.cohomology_operations.proofs.ClassLaws.{class-cohomologous, product-commutes}
use Rattle.cohomology_operations.proofs.product_laws.product_commutes.Goals as goal
use Rattle.std.proofs.Common.{◌+◌}

pub returns : goal.returns
returns c = record {
  cohomologous = product-commutes;
  class = λ K ok p q a b A B. class-cohomologous K ok (p + q) (cup K 0 a b) (cup K 0 b a) (product-commutes K ok p q a b A B);
}
