-- What a checker knows after a message that was read as it was meant.
use Rattle.std.proofs.Common.{◌≡◌, ℕ, zero, suc, ◌+◌, Bool, false, cond, None, Some, List, [], ◌∷◌}
use Rattle.std.proofs.Common.{◌++◌, length, map, refl, sym, ap, subst, ◌∙◌, arith}
use Rattle.std.specs.Prelude.{Option, option_map, is_some}
use Rattle.std.specs.declared.result.Result.TheVariants.{Ok}
use Rattle.wl_wire.specs.declared.kind.Iface.{Iface}
use Rattle.wl_sigs.specs.Tables.{Interface, destroys_one}
use Rattle.wl_sigs.specs.Valid.{Valid}
use Rattle.wl_message.specs.Outgoing as boxes
use Rattle.wl_object_map.specs.declared.object.Entry.{Entry}
use Rattle.wl_object_map.specs.declared.object.State.TheVariants.{Live}
use Rattle.wl_objects.specs.Messages.{NewObject, ended_id, is_error}
use Rattle.wl_recording.specs.declared.piece.Direction.{Direction}
use Rattle.wl_check.specs.Merged.{span, framed, same_direction}
use Rattle.wl_check.specs.Changes.{Call, changes, destroyed_id, side_of}
use Rattle.wl_check.specs.Places.{is_id, is_made, frees_id, made_entry, new_or_null, used_by, unless_deleted}
use Rattle.wl_check.specs.Places.{server_used_by}
use Rattle.wl_object_map.specs.declared.object.Maker.{Maker}
use Rattle.wl_check.specs.Rules.{judged}
use Rattle.wl_check.specs.Session.{Judged}
use Rattle.wl_check.proofs.MergedPiece.{same_is}
use Rattle.wl_check.proofs.LongerRecording.{behind_one, advertised_more}
use Rattle.theory_connection.specs.Meant.{Known, Message, objects, tokens, wire}
use Rattle.theory_connection.specs.World.{Row, Each, IfThere}
use Rattle.theory_connection.specs.Flight.{Rows, IsHeldInRows, Fresh, NextTold}
use Rattle.theory_connection.specs.Stands.{FitsSignature}
use Rattle.theory_connection.proofs.WholeInFlight.{client_makes, client_told, client_ends, OfClient}
use Rattle.theory_connection.proofs.ReadAsMeant.{made_of, tokens_taken}
use Rattle.theory_recording.specs.Follows.{knowledge, birth_places, KnownAs, GoesOn, AllGoOn}
use Rattle.theory_recording.proofs.AdvertisedGlobals.{Grows}
use Rattle.theory_recording.proofs.JudgedAsMeant.{call_as}
use Rattle.theory_recording.proofs.KnownBehindMessage.{ended_ids, known_behind, known_event, places_behind, grown}
use Rattle.theory_connection.proofs.EndedObject.{ends_as, ends_have}

-- The message at a place of a direction's stream keeps all rules, if the direction brought t tokens.
-- Afterwards, the direction has taken the message's tokens too, and `Next` holds.
pub record One (limit : ℕ) (tables : List Interface) (d : Direction) (stream : List ℕ) (t p : ℕ)
    (sent : boxes.QueuedMessage)
    (e : List Judged) (Next : List Judged → Type 0) : Type 0 where
  pub call : Call
  pub is : judged limit tables (knowledge tables e) stream (framed d t (span p (length sent.bytes))) ≡ Ok call
  pub own : (knowledge tables (e ++ Ok call ∷ [])).taken d ≡ (knowledge tables e).taken d + length sent.tokens
  pub other : (x : Direction) → same_direction d x ≡ false
      → (knowledge tables (e ++ Ok call ∷ [])).taken x ≡ (knowledge tables e).taken x
  pub next : Next (e ++ Ok call ∷ [])

-- the session still goes on after one more message
pub go_on_more : (e : List Judged) (j : Judged) → AllGoOn e → GoesOn j → AllGoOn (e ++ j ∷ [])
go_on_more [] j a g zero one is = let same : j ≡ one = cc in subst GoesOn same g
go_on_more [] j a g (suc k) one is = absurd (cc)
go_on_more (x ∷ xs) j a g zero one is = a zero one is
go_on_more (x ∷ xs) j a g (suc k) one is = go_on_more xs j (λ i. a (suc i)) g k one is

-- the session goes on after a message that fits
pub goes_on_as : (tables : List Interface) (d : Direction) (m : Message Known) (entry : Entry)
    (f : FitsSignature tables (side_of d) m) → entry.iface ≡ m.target.born.iface
    → GoesOn (Ok (call_as d m entry f.signature))
goes_on_as tables d m entry f iface = record {
  call = call_as d m entry f.signature;
  is = refl;
  goes_on = ap (λ (i : Iface). is_error (side_of d) i m.opcode) iface ∙ f.no_error;
}

-- ---- the tokens, and what is advertised

-- a message adds its tokens to those taken in its direction
pub own_taken : (tables : List Interface) (e : List Judged) (d : Direction) (m : Message Known) (entry : Entry)
    (f : FitsSignature tables (side_of d) m)
    → (knowledge tables (e ++ Ok (call_as d m entry f.signature) ∷ [])).taken d
    ≡ (knowledge tables e).taken d + length (tokens m.args)
own_taken tables e d m entry f =
    let call = call_as d m entry f.signature in
    let b = (behind_one tables e call).taken_is d in
    let count = tokens_taken tables m.target.born.version f.signature.kinds m.args f.args in
    b ∙ rw (same_is d) (ap (λ (n : ℕ). (knowledge tables e).taken d + n) count)

-- a message takes no tokens of the other direction
pub other_taken : (tables : List Interface) (e : List Judged) (call : Call) (x : Direction)
    → same_direction call.direction x ≡ false
    → (knowledge tables (e ++ Ok call ∷ [])).taken x ≡ (knowledge tables e).taken x
other_taken tables e call x apart =
    let b = (behind_one tables e call).taken_is x in
    b ∙ rw apart (omega arith)

-- no message lowers the advertised version of a global
pub call_grows : (tables : List Interface) (e : List Judged) (call : Call)
    → Grows (knowledge tables e) (knowledge tables (e ++ Ok call ∷ []))
call_grows tables e call name iface =
    let is = (behind_one tables e call).advertised_is name iface in
    let more = advertised_more (changes tables call) name iface ((knowledge tables e).advertised_version name iface) in
    omega (arith, is, more)

-- ---- the objects

destroyed_as : (b : Bool) (id : ℕ) (o : Option Known) → b ≡ is_some o → IfThere (λ x. x.id ≡ id) o
    → destroyed_id b id ≡ ended_ids o
destroyed_as b id None f h = ap (λ (t : Bool). destroyed_id t id) f
destroyed_as b id (Some x) f h = λ i. destroyed_id (f i) (sym h i)

-- what is known after a call that makes n and ends o
record BehindCall (tables : List Interface) (e : List Judged) (call : Call) (n o : Option Known) : Type 0 where
  objects : (id : ℕ) → (knowledge tables (e ++ Ok call ∷ [])).object id
      ≡ cond (is_made (option_map made_of n) id)
      (Some (made_entry (suc (length e)) Live (new_or_null (option_map made_of n))))
      (unless_deleted (frees_id None id) (is_id (ended_ids o) id) ((knowledge tables e).object id))
  used : (knowledge tables (e ++ Ok call ∷ [])).used ≡ used_by (option_map made_of n) (knowledge tables e).used
  server_used : (knowledge tables (e ++ Ok call ∷ [])).server_used
      ≡ server_used_by (option_map made_of n) (knowledge tables e).server_used
  places : birth_places tables (e ++ Ok call ∷ [])
      ≡ grown (birth_places tables e) (option_map made_of n) (suc (length e))

behind_call : (tables : List Interface) (e : List Judged) (here : Rows Row) (d : Direction) (m : Message Known)
    (entry : Entry) (f : FitsSignature tables (side_of d) m) (n : Option Known) → Valid tables
    → (changes tables (call_as d m entry f.signature)).made ≡ option_map made_of n
    → (changes tables (call_as d m entry f.signature)).deleted ≡ None
    → BehindCall tables e (call_as d m entry f.signature) n m.ends
behind_call tables e here d m entry f n valid made_is deleted_is =
    let call = call_as d m entry f.signature in
    let k = knowledge tables e in
    let p = suc (length e) in
    let b = behind_one tables e call in
    let ended = ends_as tables (side_of d) m f valid in
    let destroyed_is : (changes tables call).destroyed ≡ ended_ids m.ends =
    destroyed_as (destroys_one f.signature.destroys)
    (ended_id f.signature.destroys m.target.id (map wire m.args)) m.ends ended.flag ended.same in
    record {
      objects =
          λ id. b.objects id ∙ (λ i. cond (is_made (made_is i) id) (Some (made_entry p Live (new_or_null (made_is i))))
          (unless_deleted (frees_id (deleted_is i) id) (is_id (destroyed_is i) id) (k.object id)));
      used = b.used_is ∙ ap (λ (o : Option NewObject). used_by o k.used) made_is;
      server_used = b.server_used_is ∙ ap (λ (o : Option NewObject). server_used_by o k.server_used) made_is;
      places = places_behind tables e call ∙ ap (λ (o : Option NewObject). grown (birth_places tables e) o p) made_is;
    }

-- after a request that fits, the checker knows the resulting rows
pub known_call : (tables : List Interface) (e : List Judged) (here : Rows Row) (d : Direction) (m : Message Known)
    (entry : Entry) (f : FitsSignature tables (side_of d) m) (n : Option Known)
    → Valid tables → KnownAs (knowledge tables e) (birth_places tables e) here → IfThere (Fresh here) n
    → IsHeldInRows here m.target
    → Each (IsHeldInRows here) (objects m.args)
    → (changes tables (call_as d m entry f.signature)).made ≡ option_map made_of n
    → (changes tables (call_as d m entry f.signature)).deleted ≡ None
    → KnownAs (knowledge tables (e ++ Ok (call_as d m entry f.signature) ∷ []))
    (birth_places tables (e ++ Ok (call_as d m entry f.signature) ∷ [])) (client_ends m.ends (client_makes here n))
known_call tables e here d m entry f n valid a fresh target args made_is deleted_is =
    let c = behind_call tables e here d m entry f n valid made_is deleted_is in
    let held : IfThere (IsHeldInRows here) m.ends = ends_have (IsHeldInRows here) tables (side_of d) m f target args in
    let call = call_as d m entry f.signature in
    subst (λ (ps : Maker → List ℕ). KnownAs (knowledge tables (e ++ Ok call ∷ [])) ps
    (client_ends m.ends (client_makes here n))) (sym c.places)
    (known_behind (knowledge tables e) (knowledge tables (e ++ Ok call ∷ [])) (birth_places tables e) (suc (length e))
    here n m.ends a fresh held c.objects c.used c.server_used)

-- the same after an event
pub known_told : (tables : List Interface) (e : List Judged) (here : Rows Row) (d : Direction) (m : Message Known)
    (entry : Entry) (f : FitsSignature tables (side_of d) m) (n : Option Known)
    → Valid tables → KnownAs (knowledge tables e) (birth_places tables e) here → IfThere (NextTold here) n
    → IsHeldInRows here m.target
    → Each (IsHeldInRows here) (objects m.args) → IfThere OfClient m.ends
    → (changes tables (call_as d m entry f.signature)).made ≡ option_map made_of n
    → (changes tables (call_as d m entry f.signature)).deleted ≡ None
    → KnownAs (knowledge tables (e ++ Ok (call_as d m entry f.signature) ∷ []))
    (birth_places tables (e ++ Ok (call_as d m entry f.signature) ∷ [])) (client_ends m.ends (client_told here n))
known_told tables e here d m entry f n valid a follows target args range made_is deleted_is =
    let c = behind_call tables e here d m entry f n valid made_is deleted_is in
    let held : IfThere (IsHeldInRows here) m.ends = ends_have (IsHeldInRows here) tables (side_of d) m f target args in
    let call = call_as d m entry f.signature in
    subst (λ (ps : Maker → List ℕ). KnownAs (knowledge tables (e ++ Ok call ∷ [])) ps
    (client_ends m.ends (client_told here n))) (sym c.places)
    (known_event (knowledge tables e) (knowledge tables (e ++ Ok call ∷ [])) (birth_places tables e) (suc (length e))
    here n m.ends a follows held range c.objects c.used c.server_used)
