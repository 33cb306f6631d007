use Rattle.std.proofs.Common.{ℕ, ◌<◌, [], drop, take, refl, sym, arith}
use Rattle.std.proofs.lemmas.List.{take-append-drop}
use Rattle.std.proofs.lemmas.List.Elements.{All-from_recursion}
use Rattle.wl_message.specs.Cut.{front}
use Rattle.theory_peers.specs.ServerStreams.{begins, cuts_arriving, feeds, from_client, hears}
use Rattle.theory_peers.specs.StreamSamples.{registry_asked}
use Rattle.theory_peers.proofs.server_streams.a_piece_ends_within_a_header.Goals as goal

pub returns-clause-run : goal.returns-clause-run
returns-clause-run c = λ sizes is.
    feeds (feeds (cuts_arriving (hears (begins sizes is) registry_asked 0 (All-from_recursion (λ (b : ℕ). b < 256)
    registry_asked (
      omega arith,
      (
        omega arith,
        (
          omega arith,
          (
            omega arith,
            (
              omega arith,
              (
                omega arith,
                (
                  omega arith,
                  (omega arith, (omega arith, (omega arith, (omega arith, (omega arith, tt))))),
                ),
              ),
            ),
          ),
        ),
      ),
    )))
    (from_client (take 5 registry_asked) 0) (from_client (drop 5 registry_asked) 0) (record {
      first_direction = refl;
      second_direction = refl;
      bytes = sym (take-append-drop 5 registry_asked);
      tokens = refl;
      no_later = λ h. refl;
    })) [] refl) [] refl

pub returns-clause-part : goal.returns-clause-part
unfolding front
returns-clause-part c = λ sizes. refl

pub returns-clause-whole : goal.returns-clause-whole
unfolding front
returns-clause-whole c = λ sizes is. rw is refl
