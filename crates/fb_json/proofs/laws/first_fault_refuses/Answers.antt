use Rattle.fb_json.proofs.root.RootMeaningDecides.{none_means, refused_root}
use Rattle.fb_json.proofs.laws.first_fault_refuses.Goals as goal

pub returns : goal.returns
returns c = λ L most unknown t f first. (
  refused_root L most unknown t f first,
  none_means L most unknown t f first,
)
