use Rattle.characteristic_classes.proofs.WuLaws.{wu_class-word, wu-rows, wu-one, wu-solved, wu_class-found, wu_class-is}
use Rattle.characteristic_classes.proofs.wu_laws.one_wu_class.Goals as goal

pub returns : goal.returns
returns c = record {
  word = wu_class-word;
  exists = λ K ok n shut k le free. let s = wu-solved K ok n shut k le free in wu_class-found K ok n shut k le s.word s.class s.solves;
  one = λ K ok n shut k le free v w V W D E. wu-one K ok n shut k le free v w V W (wu-rows K ok n shut k le v V D) (wu-rows K ok n shut k le w W E);
  found = wu_class-is;
}
