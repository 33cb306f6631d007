use Rattle.program_jobs.proofs.FileLines.{found_in_file}
use Rattle.program_jobs.proofs.laws.lines_are_found_in_their_files.Goals as goal

pub returns : goal.returns
returns c = λ texts number own line name some. found_in_file texts number own line name some
