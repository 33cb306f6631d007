use Rattle.std.proofs.Common.{◌++◌, subst}
use Rattle.std.specs.Io.KnownBytes.{Appends}
use Rattle.std.proofs.lemmas.Result.{IfOk-weaker}
use Rattle.std.proofs.KnownBytes.{Appends-trans}
use Rattle.program_stream.specs.Writing.{AppendsFront}
use Rattle.program_stream.proofs.Fronts.{front_first, front_more}
use Rattle.program_stream.proofs.writing.write_three.Goals as goal

pub returns-in_err-write_whole-clause-front : goal.returns-in_err-write_whole-clause-front
returns-in_err-write_whole-clause-front g c =
    front_first _ _ c.args.first.now (c.args.second.now ++ c.args.third.now)
    (subst (AppendsFront _ _) c.as_bytes.ensures.value c.write_whole.ensures.front)

pub returns-in_err-write_whole-2-clause-front : goal.returns-in_err-write_whole-2-clause-front
returns-in_err-write_whole-2-clause-front g c =
    front_more _ _ _ c.args.first.now (c.args.second.now ++ c.args.third.now)
    (subst (Appends _ _) c.as_bytes.ensures.value c.in_ok-write_whole.ensures.whole)
    (front_first _ _ c.args.second.now c.args.third.now
    (subst (AppendsFront _ _) c.as_bytes-2.ensures.value c.write_whole-2.ensures.front))

pub returns-clause-whole : goal.returns-clause-whole
returns-clause-whole g c = IfOk-weaker c.write_whole-3.result _ _
    (λ done last. Appends-trans _ _ _ c.args.first.now (c.args.second.now ++ c.args.third.now)
    (subst (Appends _ _) c.as_bytes.ensures.value c.in_ok-write_whole.ensures.whole)
    (Appends-trans _ _ _ c.args.second.now c.args.third.now
    (subst (Appends _ _) c.as_bytes-2.ensures.value c.in_ok-write_whole-2.ensures.whole)
    (subst (Appends _ _) c.as_bytes-3.ensures.value last)))
    c.write_whole-3.ensures.whole

pub returns-clause-front : goal.returns-clause-front
returns-clause-front g c = front_more _ _ _ c.args.first.now (c.args.second.now ++ c.args.third.now)
    (subst (Appends _ _) c.as_bytes.ensures.value c.in_ok-write_whole.ensures.whole)
    (front_more _ _ _ c.args.second.now c.args.third.now
    (subst (Appends _ _) c.as_bytes-2.ensures.value c.in_ok-write_whole-2.ensures.whole)
    (subst (AppendsFront _ _) c.as_bytes-3.ensures.value c.write_whole-3.ensures.front))
