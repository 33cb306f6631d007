-- The wl_display.error with which a session ends, and how the client reads it.
use Rattle.std.specs.Prelude.{◌≡◌, ℕ, ◌<◌, true, List, Some}
use Rattle.std.specs.List.{All}
use Rattle.std.specs.declared.result.Result.TheVariants.{Ok}
use Rattle.wl_wire.specs.declared.header.Header.{Header}
use Rattle.wl_sigs.specs.Side.TheVariants.{Event as event_side}
use Rattle.wl_sigs.specs.Tables.{Interface}
use Rattle.wl_object_map.specs.declared.object.Entry.{Entry}
use Rattle.wl_object_map.specs.Objects.{Objects, look}
use Rattle.wl_objects.specs.Messages.{is_error, reader_of, received}
use Rattle.wl_recording.specs.declared.piece.Direction.TheVariants.{ToClient}
use Rattle.wl_check.specs.Changes.{Call}
use Rattle.wl_check.specs.Merged.{span, framed}
use Rattle.wl_check.specs.Rules.{judged}
use Rattle.wl_check.specs.Session.{Judged}
use Rattle.theory_recording.specs.Follows.{knowledge}

-- The checker accepts a wl_display.error at a place of the stream to the client, after these judged
-- messages. The stream consists of bytes.
pub record IsAcceptedError (limit : ℕ) (tables : List Interface) (e : List Judged)
    (call : Call) : Type 0
  where
    pub stream : List ℕ
    pub bytes : All (λ b. b < 256) stream
    pub place : ℕ
    pub size : ℕ
    pub tokens : ℕ
    pub is : judged limit tables (knowledge tables e) stream
        (framed ToClient tokens (span place size)) ≡ Ok call
    pub ends : is_error event_side call.received.entry.iface call.opcode ≡ true

-- A client with these objects reads this header and body as the error that the checker read,
-- without a fault.
pub record IsErrorRead (tables : List Interface) (view : Objects) (call : Call) (header : Header)
    (body : List ℕ) (waiting : ℕ) : Type 0 where
  pub entry : Entry
  pub there : look view call.received.target.id ≡ Some entry
  pub is : received tables event_side (reader_of tables event_side view) header body waiting
      ≡ Ok (record {
        target = record { id = call.received.target.id; birth = entry.birth };
        entry = entry;
        signature = call.received.signature;
        values = call.received.values;
      })
