use Rattle.std.proofs.Common.{◌++◌, ℕ, List, codes, subst}
use Rattle.program_jobs.specs.Failing.{failure_text}
use Rattle.program_stream.specs.Writing.{AppendsFront}
use Rattle.std.specs.Io.KnownBytes.{Appends}
use Rattle.std.proofs.lemmas.Result.{IfOk-weaker}
use Rattle.std.proofs.KnownBytes.{Appends-trans}
use Rattle.program_stream.proofs.Fronts.{front_first, front_more, line_is}
use Rattle.program_jobs.proofs.failure.Failure.write_line.Goals as goal

abbrev begins : List ℕ
begins = codes "waywire: "

abbrev ends : List ℕ
ends = codes "\n"

pub returns-in_err-write_whole-clause-front : goal.returns-in_err-write_whole-clause-front
returns-in_err-write_whole-clause-front g c =
    let r = c.parts.result in
    let head = r.0.now ++ (r.1.now ++ r.2.now) in
    let tail = r.3.now ++ (r.4.now ++ r.5.now) in
    subst (AppendsFront _ _) (line_is begins r.0.now r.1.now r.2.now r.3.now r.4.now r.5.now
    (failure_text c.args.self.now) ends c.parts.ensures)
    (front_first _ _ begins (head ++ (tail ++ ends)) c.write_whole.ensures.front)

pub returns-in_err-write_three-clause-front : goal.returns-in_err-write_three-clause-front
returns-in_err-write_three-clause-front g c =
    let r = c.parts.result in
    let head = r.0.now ++ (r.1.now ++ r.2.now) in
    let tail = r.3.now ++ (r.4.now ++ r.5.now) in
    subst (AppendsFront _ _) (line_is begins r.0.now r.1.now r.2.now r.3.now r.4.now r.5.now
    (failure_text c.args.self.now) ends c.parts.ensures)
    (front_more _ _ _ begins (head ++ (tail ++ ends)) c.in_ok-write_whole.ensures.whole
    (front_first _ _ head (tail ++ ends) c.write_three.ensures.front))

pub returns-in_err-write_three-2-clause-front : goal.returns-in_err-write_three-2-clause-front
returns-in_err-write_three-2-clause-front g c =
    let r = c.parts.result in
    let head = r.0.now ++ (r.1.now ++ r.2.now) in
    let tail = r.3.now ++ (r.4.now ++ r.5.now) in
    subst (AppendsFront _ _) (line_is begins r.0.now r.1.now r.2.now r.3.now r.4.now r.5.now
    (failure_text c.args.self.now) ends c.parts.ensures)
    (front_more _ _ _ begins (head ++ (tail ++ ends)) c.in_ok-write_whole.ensures.whole
    (front_more _ _ _ head (tail ++ ends) c.in_ok-write_three.ensures.whole
    (front_first _ _ tail ends c.write_three-2.ensures.front)))

pub returns-clause-whole : goal.returns-clause-whole
returns-clause-whole g c =
    let r = c.parts.result in
    let head = r.0.now ++ (r.1.now ++ r.2.now) in
    let tail = r.3.now ++ (r.4.now ++ r.5.now) in
    IfOk-weaker c.write_whole-2.result _ _
    (λ done last. subst (Appends _ _) (line_is begins r.0.now r.1.now r.2.now r.3.now r.4.now r.5.now
    (failure_text c.args.self.now) ends c.parts.ensures)
    (Appends-trans _ _ _ begins (head ++ (tail ++ ends)) c.in_ok-write_whole.ensures.whole
    (Appends-trans _ _ _ head (tail ++ ends) c.in_ok-write_three.ensures.whole
    (Appends-trans _ _ _ tail ends c.in_ok-write_three-2.ensures.whole last))))
    c.write_whole-2.ensures.whole

pub returns-clause-front : goal.returns-clause-front
returns-clause-front g c =
    let r = c.parts.result in
    let head = r.0.now ++ (r.1.now ++ r.2.now) in
    let tail = r.3.now ++ (r.4.now ++ r.5.now) in
    subst (AppendsFront _ _) (line_is begins r.0.now r.1.now r.2.now r.3.now r.4.now r.5.now
    (failure_text c.args.self.now) ends c.parts.ensures)
    (front_more _ _ _ begins (head ++ (tail ++ ends)) c.in_ok-write_whole.ensures.whole
    (front_more _ _ _ head (tail ++ ends) c.in_ok-write_three.ensures.whole
    (front_more _ _ _ tail ends c.in_ok-write_three-2.ensures.whole c.write_whole-2.ensures.front)))
