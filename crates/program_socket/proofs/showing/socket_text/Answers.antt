use Rattle.std.proofs.Common.{List, ℕ, true, ◌++◌, ◌∙◌, ap}
use Rattle.program_demo.specs.Agreement.{agreement_line}
use Rattle.program_socket.specs.Streams.{known_stream}
use Rattle.program_socket.proofs.Plays.{ends_agreeing}
use Rattle.program_socket.proofs.showing.socket_text.Goals as goal

pub returns : goal.returns
returns g c =
    let client = known_stream g.C.Read.remaining g.C.Write.contents in
    let server = known_stream g.S.Read.remaining g.S.Write.contents in
    let played = c.in_ok-played.played in
    record {
      pieces = played.recording;
      objects = played.objects;
      ends = ends_agreeing client server c.args.tables.now c.args.client c.args.server played.recording played.agree
          played.objects c.if-not-played.false c.in_ok-played.ensures;
      whole = c.in_ok-write_agreement.ensures ∙ ap
          (λ (lines : List ℕ). lines ++ agreement_line true played.objects) c.in_ok-text.ensures.lines;
    }
