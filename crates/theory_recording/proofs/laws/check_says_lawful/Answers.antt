use Rattle.theory_recording.proofs.LinkedIsLawful.{check_says_lawful}
use Rattle.theory_recording.proofs.laws.check_says_lawful.Goals as goal

pub returns : goal.returns
returns c = λ pair world verdict linked answers. check_says_lawful pair world linked verdict answers
