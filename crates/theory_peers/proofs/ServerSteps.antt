-- The server's read of a request is a step of a run.
use Rattle.std.proofs.Common.{◌≡◌, ℕ, Bool, true, false, List, ◌∷◌, length, map, take, drop, refl, sym, ap, ◌∙◌}
use Rattle.std.specs.Prelude.{◌&&◌, not}
use Rattle.std.specs.declared.option.Option.TheVariants.{Some}
use Rattle.std.specs.declared.result.Result.TheVariants.{Ok}
use Rattle.wl_sigs.specs.Side.TheVariants.{Request}
use Rattle.wl_sigs.specs.Valid.{Valid}
use Rattle.wl_message.specs.Arrived.{in_front}
use Rattle.wl_message.specs.Cut.{Whole}
use Rattle.wl_object_map.specs.Objects.{ObjectsAreSound}
use Rattle.wl_objects.specs.Messages.{is_bind}
use Rattle.wl_connection.specs.Receiving.{Found, found, found_at, found_in, header_of}
use Rattle.wl_server.specs.Requests.{is_good_bind, unless_bad_bind}
use Rattle.wl_server.specs.State.{State}
use Rattle.wl_check.specs.Session.{Judged}
use Rattle.theory_connection.specs.Meant.{Born, Coming, Known, Message, made_in, wire}
use Rattle.theory_connection.specs.Flight.{server_rows}
use Rattle.theory_connection.proofs.FoundInFront.{the_found, the_message}
use Rattle.theory_connection.proofs.RequestRead.{left_is}
use Rattle.theory_connection.proofs.RowsAfterMessage.{server_after}
use Rattle.theory_peers.specs.FollowsServer.{FollowsServer}
use Rattle.theory_peers.specs.ReadByServer.{IsSpelledBy, ReadsAsStep}
use Rattle.theory_peers.proofs.ServerMoves.{reads_one}
use Rattle.theory_peers.proofs.ServerReads.{read_by_server}

no_bad_bind : (b g : Bool) → (b ≡ true → g ≡ true) → (b && not g) ≡ false
no_bad_bind false g h = refl
no_bad_bind true g h = rw (h refl) refl

pub reads_step : (state : State) (e : List Judged) (m : Message Known) (asked : List (Message Known))
    (told : List (Coming Known)) (n : ℕ) → Valid state.core.tables → ObjectsAreSound state.core.view
    → FollowsServer state.core.tables e (m ∷ asked) told (server_rows state.core.view)
    → in_front state.core.inbox ≡ Whole n
    → IsSpelledBy state.core.tables m (header_of state.core.inbox.bytes) (drop 8 (take n state.core.inbox.bytes))
    (length state.core.inbox.tokens)
    → (is_bind Request m.target.born.iface m.opcode ≡ true → is_good_bind state (map wire m.args) ≡ true)
    → ReadsAsStep state m
reads_step state e m asked told n v sound f front s good =
    let core = state.core in
    let fits = f.asks_fit.0 in
    let bytes = core.inbox.bytes in
    let r = read_by_server core.tables e m asked told core.view (header_of bytes) (drop 8 (take n bytes))
    (length core.inbox.tokens) v sound f s in
    let can = reads_one core.tables e m asked told (server_rows core.view) f in
    let both : Some r.signature ≡ Some fits.signature = sym r.signed ∙ fits.there in
    let same : r.signature ≡ fits.signature = cc both in
    let it = the_found n m r.entry fits.signature in
    let found_is : found core Request ≡ Ok (Some it) =
    ap (found_at core Request) front ∙ ap (found_in n (header_of bytes).opcode) r.is
    ∙ (λ i. Ok (Some (let one : Found = record {
      size = n;
      opcode = s.opcode i;
      message = the_message m r.entry (same i);
    } in one))) in
    let fine : (is_bind Request r.entry.iface m.opcode && not (is_good_bind state (map wire m.args))) ≡ false =
    no_bad_bind (is_bind Request r.entry.iface m.opcode) (is_good_bind state (map wire m.args))
    (λ h. good (ap (λ (b : Born). is_bind Request b.iface m.opcode) (sym r.same) ∙ h)) in
    let left = left_is state m n r.entry fits v r.same can.target can.args in
    record {
      found = it;
      finds = ap (unless_bad_bind state) found_is ∙ rw fine refl;
      rows = ap (λ (st : State). server_rows st.core.view) left ∙ server_after core.view (made_in m.args) m.ends can.new;
      writes = ap (λ (st : State). st.core.outbox.messages) left;
    }
