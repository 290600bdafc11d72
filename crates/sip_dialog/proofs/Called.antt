-- Made by `tools/face write` from crates/sip_dialog/src, not by hand.
-- A call of each C function on a store, and of the listing: what it was entered with, what it returned, and with what. Nothing is known of it but the contract that the
-- function is proved to keep: `Post` of a function is what the toolchain makes of its `ensures`. Assumes nothing.
use Prim.Native.Nat.{ℕ}
use mathlib.Core.List.{List}
use contract.Lifetimes.{Lfts}
use denote.Ref.{Bor, MutBor}
use Rattle.limits.specs.declared.settings.Settings.{Settings}
use Rattle.sip_dialog.proofs.stores.sip_dialog_put.Reads as put-reads
use Rattle.sip_dialog.proofs.stores.sip_dialog_request.Reads as request-reads
use Rattle.sip_dialog.proofs.stores.sip_dialog_response.Reads as response-reads
use Rattle.sip_dialog.proofs.stores.sip_dialog_terminate.Reads as terminate-reads
use Rattle.sip_dialog.proofs.stores.sip_dialog_next_local_cseq.Reads as next-local-cseq-reads
use Rattle.sip_dialog.proofs.stores.sip_dialog_set_session_expires.Reads as set-session-expires-reads
use Rattle.sip_dialog.proofs.stores.sip_dialog_remove.Reads as remove-reads
use Rattle.sip_dialog.proofs.stores.sip_dialog_sweep.Reads as sweep-reads
use Rattle.sip_dialog.proofs.store_readings.sip_dialog_get.Reads as get-reads
use Rattle.sip_dialog.proofs.store_readings.sip_dialog_find_by_call_id.Reads as find-by-call-id-reads
use Rattle.sip_dialog.proofs.store_readings.sip_dialog_find_by_request.Reads as find-by-request-reads
use Rattle.sip_dialog.proofs.store_readings.sip_dialog_count.Reads as count-reads
use Rattle.sip_dialog.proofs.store_readings.sip_dialog_all_ids.Reads as all-ids-reads
use Rattle.sip_dialog.proofs.store_readings.sip_dialog_listing.Reads as listing-reads
use Rattle.sip_dialog.proofs.rseq.sip_dialog_rseq_next.Reads as rseq-next-reads
use Rattle.sip_dialog.proofs.rseq.sip_dialog_rseq_current.Reads as rseq-current-reads
use Rattle.sip_dialog.proofs.rseq.sip_dialog_rseq_remove.Reads as rseq-remove-reads
use Rattle.sip_dialog.proofs.rseq.sip_dialog_rseq_len.Reads as rseq-len-reads
use Rattle.sip_dialog.proofs.rseq.sip_dialog_rseq_is_empty.Reads as rseq-is-empty-reads
use Rattle.sip_dialog.proofs.prack_lists.sip_dialog_prack_register.Reads as prack-register-reads
use Rattle.sip_dialog.proofs.prack_lists.sip_dialog_prack_validate.Reads as prack-validate-reads
use Rattle.sip_dialog.proofs.prack_lists.sip_dialog_prack_is_pracked.Reads as prack-is-pracked-reads
use Rattle.sip_dialog.proofs.prack_lists.sip_dialog_prack_get_pending.Reads as prack-get-pending-reads
use Rattle.sip_dialog.proofs.prack_lists.sip_dialog_prack_remove_dialog.Reads as prack-remove-dialog-reads
use Rattle.sip_dialog.proofs.prack_lists.sip_dialog_prack_remove_pracked.Reads as prack-remove-pracked-reads
use Rattle.sip_dialog.proofs.verdicts.sip_dialog_add_verdict.Reads as add-verdict-reads
use Rattle.sip_dialog.proofs.verdicts.sip_dialog_worst_minute.Reads as worst-minute-reads

pub record PutCall : Type 0 where
  pub κs : Lfts 4
  pub settings : Settings
  pub image : Bor (List ℕ)
  pub store : MutBor (List ℕ)
  pub used : MutBor ℕ
  pub created : MutBor ℕ
  pub returned : ℕ
  pub image' : Bor (List ℕ)
  pub store' : MutBor (List ℕ)
  pub used' : MutBor ℕ
  pub created' : MutBor ℕ
  pub kept : put-reads.Post κs (settings, (image, (store, (used, (created, tt))))) returned (settings, (image', (store', (used', (created', tt)))))

pub record RequestCall : Type 0 where
  pub κs : Lfts 4
  pub settings : Settings
  pub method : Bor (List ℕ)
  pub block : Bor (List ℕ)
  pub store : MutBor (List ℕ)
  pub used : MutBor ℕ
  pub returned : ℕ
  pub method' : Bor (List ℕ)
  pub block' : Bor (List ℕ)
  pub store' : MutBor (List ℕ)
  pub used' : MutBor ℕ
  pub kept : request-reads.Post κs (settings, (method, (block, (store, (used, tt))))) returned (settings, (method', (block', (store', (used', tt)))))

pub record ResponseCall : Type 0 where
  pub κs : Lfts 6
  pub settings : Settings
  pub call_id : Bor (List ℕ)
  pub local_tag : Bor (List ℕ)
  pub remote_tag : Bor (List ℕ)
  pub status : ℕ
  pub block : Bor (List ℕ)
  pub store : MutBor (List ℕ)
  pub used : MutBor ℕ
  pub returned : ℕ
  pub call_id' : Bor (List ℕ)
  pub local_tag' : Bor (List ℕ)
  pub remote_tag' : Bor (List ℕ)
  pub block' : Bor (List ℕ)
  pub store' : MutBor (List ℕ)
  pub used' : MutBor ℕ
  pub kept : response-reads.Post κs (settings, (call_id, (local_tag, (remote_tag, (status, (block, (store, (used, tt)))))))) returned (settings, (call_id', (local_tag', (remote_tag', (status, (block', (store', (used', tt))))))))

pub record TerminateCall : Type 0 where
  pub κs : Lfts 5
  pub settings : Settings
  pub call_id : Bor (List ℕ)
  pub local_tag : Bor (List ℕ)
  pub remote_tag : Bor (List ℕ)
  pub store : MutBor (List ℕ)
  pub used : MutBor ℕ
  pub returned : ℕ
  pub call_id' : Bor (List ℕ)
  pub local_tag' : Bor (List ℕ)
  pub remote_tag' : Bor (List ℕ)
  pub store' : MutBor (List ℕ)
  pub used' : MutBor ℕ
  pub kept : terminate-reads.Post κs (settings, (call_id, (local_tag, (remote_tag, (store, (used, tt)))))) returned (settings, (call_id', (local_tag', (remote_tag', (store', (used', tt))))))

pub record NextLocalCseqCall : Type 0 where
  pub κs : Lfts 6
  pub settings : Settings
  pub call_id : Bor (List ℕ)
  pub local_tag : Bor (List ℕ)
  pub remote_tag : Bor (List ℕ)
  pub store : MutBor (List ℕ)
  pub used : MutBor ℕ
  pub number : MutBor ℕ
  pub returned : ℕ
  pub call_id' : Bor (List ℕ)
  pub local_tag' : Bor (List ℕ)
  pub remote_tag' : Bor (List ℕ)
  pub store' : MutBor (List ℕ)
  pub used' : MutBor ℕ
  pub number' : MutBor ℕ
  pub kept : next-local-cseq-reads.Post κs (settings, (call_id, (local_tag, (remote_tag, (store, (used, (number, tt))))))) returned (settings, (call_id', (local_tag', (remote_tag', (store', (used', (number', tt)))))))

pub record SetSessionExpiresCall : Type 0 where
  pub κs : Lfts 6
  pub settings : Settings
  pub call_id : Bor (List ℕ)
  pub local_tag : Bor (List ℕ)
  pub remote_tag : Bor (List ℕ)
  pub seconds : ℕ
  pub store : MutBor (List ℕ)
  pub used : MutBor ℕ
  pub least : MutBor ℕ
  pub returned : ℕ
  pub call_id' : Bor (List ℕ)
  pub local_tag' : Bor (List ℕ)
  pub remote_tag' : Bor (List ℕ)
  pub store' : MutBor (List ℕ)
  pub used' : MutBor ℕ
  pub least' : MutBor ℕ
  pub kept : set-session-expires-reads.Post κs (settings, (call_id, (local_tag, (remote_tag, (seconds, (store, (used, (least, tt)))))))) returned (settings, (call_id', (local_tag', (remote_tag', (seconds, (store', (used', (least', tt))))))))

pub record RemoveCall : Type 0 where
  pub κs : Lfts 6
  pub settings : Settings
  pub call_id : Bor (List ℕ)
  pub local_tag : Bor (List ℕ)
  pub remote_tag : Bor (List ℕ)
  pub store : MutBor (List ℕ)
  pub used : MutBor ℕ
  pub terminated : MutBor ℕ
  pub returned : ℕ
  pub call_id' : Bor (List ℕ)
  pub local_tag' : Bor (List ℕ)
  pub remote_tag' : Bor (List ℕ)
  pub store' : MutBor (List ℕ)
  pub used' : MutBor ℕ
  pub terminated' : MutBor ℕ
  pub kept : remove-reads.Post κs (settings, (call_id, (local_tag, (remote_tag, (store, (used, (terminated, tt))))))) returned (settings, (call_id', (local_tag', (remote_tag', (store', (used', (terminated', tt)))))))

pub record SweepCall : Type 0 where
  pub κs : Lfts 2
  pub settings : Settings
  pub store : MutBor (List ℕ)
  pub used : MutBor ℕ
  pub returned : ℕ
  pub store' : MutBor (List ℕ)
  pub used' : MutBor ℕ
  pub kept : sweep-reads.Post κs (settings, (store, (used, tt))) returned (settings, (store', (used', tt)))

pub record GetCall : Type 0 where
  pub κs : Lfts 6
  pub settings : Settings
  pub call_id : Bor (List ℕ)
  pub local_tag : Bor (List ℕ)
  pub remote_tag : Bor (List ℕ)
  pub store : Bor (List ℕ)
  pub used : ℕ
  pub place : MutBor ℕ
  pub length : MutBor ℕ
  pub returned : ℕ
  pub call_id' : Bor (List ℕ)
  pub local_tag' : Bor (List ℕ)
  pub remote_tag' : Bor (List ℕ)
  pub store' : Bor (List ℕ)
  pub place' : MutBor ℕ
  pub length' : MutBor ℕ
  pub kept : get-reads.Post κs (settings, (call_id, (local_tag, (remote_tag, (store, (used, (place, (length, tt)))))))) returned (settings, (call_id', (local_tag', (remote_tag', (store', (used, (place', (length', tt))))))))

pub record FindByCallIdCall : Type 0 where
  pub κs : Lfts 4
  pub settings : Settings
  pub call_id : Bor (List ℕ)
  pub store : Bor (List ℕ)
  pub used : ℕ
  pub place : MutBor ℕ
  pub length : MutBor ℕ
  pub returned : ℕ
  pub call_id' : Bor (List ℕ)
  pub store' : Bor (List ℕ)
  pub place' : MutBor ℕ
  pub length' : MutBor ℕ
  pub kept : find-by-call-id-reads.Post κs (settings, (call_id, (store, (used, (place, (length, tt)))))) returned (settings, (call_id', (store', (used, (place', (length', tt))))))

pub record FindByRequestCall : Type 0 where
  pub κs : Lfts 4
  pub settings : Settings
  pub block : Bor (List ℕ)
  pub store : Bor (List ℕ)
  pub used : ℕ
  pub place : MutBor ℕ
  pub length : MutBor ℕ
  pub returned : ℕ
  pub block' : Bor (List ℕ)
  pub store' : Bor (List ℕ)
  pub place' : MutBor ℕ
  pub length' : MutBor ℕ
  pub kept : find-by-request-reads.Post κs (settings, (block, (store, (used, (place, (length, tt)))))) returned (settings, (block', (store', (used, (place', (length', tt))))))

pub record CountCall : Type 0 where
  pub κs : Lfts 2
  pub settings : Settings
  pub store : Bor (List ℕ)
  pub used : ℕ
  pub count : MutBor ℕ
  pub returned : ℕ
  pub store' : Bor (List ℕ)
  pub count' : MutBor ℕ
  pub kept : count-reads.Post κs (settings, (store, (used, (count, tt)))) returned (settings, (store', (used, (count', tt))))

pub record AllIdsCall : Type 0 where
  pub κs : Lfts 3
  pub settings : Settings
  pub store : Bor (List ℕ)
  pub used : ℕ
  pub out : MutBor (List ℕ)
  pub written : MutBor ℕ
  pub returned : ℕ
  pub store' : Bor (List ℕ)
  pub out' : MutBor (List ℕ)
  pub written' : MutBor ℕ
  pub kept : all-ids-reads.Post κs (settings, (store, (used, (out, (written, tt))))) returned (settings, (store', (used, (out', (written', tt)))))

pub record ListingCall : Type 0 where
  pub κs : Lfts 3
  pub settings : Settings
  pub bytes : Bor (List ℕ)
  pub out : MutBor (List ℕ)
  pub written : MutBor ℕ
  pub returned : ℕ
  pub bytes' : Bor (List ℕ)
  pub out' : MutBor (List ℕ)
  pub written' : MutBor ℕ
  pub kept : listing-reads.Post κs (settings, (bytes, (out, (written, tt)))) returned (settings, (bytes', (out', (written', tt))))

pub record RseqNextCall : Type 0 where
  pub κs : Lfts 6
  pub call_id : Bor (List ℕ)
  pub local_tag : Bor (List ℕ)
  pub remote_tag : Bor (List ℕ)
  pub n : ℕ
  pub store : MutBor (List ℕ)
  pub used : MutBor ℕ
  pub rseq : MutBor ℕ
  pub returned : ℕ
  pub call_id' : Bor (List ℕ)
  pub local_tag' : Bor (List ℕ)
  pub remote_tag' : Bor (List ℕ)
  pub store' : MutBor (List ℕ)
  pub used' : MutBor ℕ
  pub rseq' : MutBor ℕ
  pub kept : rseq-next-reads.Post κs (call_id, (local_tag, (remote_tag, (n, (store, (used, (rseq, tt))))))) returned (call_id', (local_tag', (remote_tag', (n, (store', (used', (rseq', tt)))))))

pub record RseqCurrentCall : Type 0 where
  pub κs : Lfts 5
  pub call_id : Bor (List ℕ)
  pub local_tag : Bor (List ℕ)
  pub remote_tag : Bor (List ℕ)
  pub store : Bor (List ℕ)
  pub used : ℕ
  pub rseq : MutBor ℕ
  pub returned : ℕ
  pub call_id' : Bor (List ℕ)
  pub local_tag' : Bor (List ℕ)
  pub remote_tag' : Bor (List ℕ)
  pub store' : Bor (List ℕ)
  pub rseq' : MutBor ℕ
  pub kept : rseq-current-reads.Post κs (call_id, (local_tag, (remote_tag, (store, (used, (rseq, tt)))))) returned (call_id', (local_tag', (remote_tag', (store', (used, (rseq', tt))))))

pub record RseqRemoveCall : Type 0 where
  pub κs : Lfts 5
  pub call_id : Bor (List ℕ)
  pub local_tag : Bor (List ℕ)
  pub remote_tag : Bor (List ℕ)
  pub store : MutBor (List ℕ)
  pub used : MutBor ℕ
  pub returned : ℕ
  pub call_id' : Bor (List ℕ)
  pub local_tag' : Bor (List ℕ)
  pub remote_tag' : Bor (List ℕ)
  pub store' : MutBor (List ℕ)
  pub used' : MutBor ℕ
  pub kept : rseq-remove-reads.Post κs (call_id, (local_tag, (remote_tag, (store, (used, tt))))) returned (call_id', (local_tag', (remote_tag', (store', (used', tt)))))

pub record RseqLenCall : Type 0 where
  pub κs : Lfts 2
  pub store : Bor (List ℕ)
  pub used : ℕ
  pub count : MutBor ℕ
  pub returned : ℕ
  pub store' : Bor (List ℕ)
  pub count' : MutBor ℕ
  pub kept : rseq-len-reads.Post κs (store, (used, (count, tt))) returned (store', (used, (count', tt)))

pub record RseqIsEmptyCall : Type 0 where
  pub κs : Lfts 2
  pub store : Bor (List ℕ)
  pub used : ℕ
  pub empty : MutBor ℕ
  pub returned : ℕ
  pub store' : Bor (List ℕ)
  pub empty' : MutBor ℕ
  pub kept : rseq-is-empty-reads.Post κs (store, (used, (empty, tt))) returned (store', (used, (empty', tt)))

pub record PrackRegisterCall : Type 0 where
  pub κs : Lfts 3
  pub settings : Settings
  pub id : Bor (List ℕ)
  pub rseq : ℕ
  pub cseq : ℕ
  pub method : ℕ
  pub code : ℕ
  pub time : ℕ
  pub store : MutBor (List ℕ)
  pub used : MutBor ℕ
  pub returned : ℕ
  pub id' : Bor (List ℕ)
  pub store' : MutBor (List ℕ)
  pub used' : MutBor ℕ
  pub kept : prack-register-reads.Post κs (settings, (id, (rseq, (cseq, (method, (code, (time, (store, (used, tt))))))))) returned (settings, (id', (rseq, (cseq, (method, (code, (time, (store', (used', tt)))))))))

pub record PrackValidateCall : Type 0 where
  pub κs : Lfts 7
  pub settings : Settings
  pub id : Bor (List ℕ)
  pub block : Bor (List ℕ)
  pub time : ℕ
  pub store : MutBor (List ℕ)
  pub used : MutBor ℕ
  pub rseq : MutBor ℕ
  pub cseq : MutBor ℕ
  pub method : MutBor ℕ
  pub returned : ℕ
  pub id' : Bor (List ℕ)
  pub block' : Bor (List ℕ)
  pub store' : MutBor (List ℕ)
  pub used' : MutBor ℕ
  pub rseq' : MutBor ℕ
  pub cseq' : MutBor ℕ
  pub method' : MutBor ℕ
  pub kept : prack-validate-reads.Post κs (settings, (id, (block, (time, (store, (used, (rseq, (cseq, (method, tt))))))))) returned (settings, (id', (block', (time, (store', (used', (rseq', (cseq', (method', tt)))))))))

pub record PrackIsPrackedCall : Type 0 where
  pub κs : Lfts 3
  pub settings : Settings
  pub id : Bor (List ℕ)
  pub rseq : ℕ
  pub store : Bor (List ℕ)
  pub used : ℕ
  pub pracked : MutBor ℕ
  pub returned : ℕ
  pub id' : Bor (List ℕ)
  pub store' : Bor (List ℕ)
  pub pracked' : MutBor ℕ
  pub kept : prack-is-pracked-reads.Post κs (settings, (id, (rseq, (store, (used, (pracked, tt)))))) returned (settings, (id', (rseq, (store', (used, (pracked', tt))))))

pub record PrackGetPendingCall : Type 0 where
  pub κs : Lfts 5
  pub settings : Settings
  pub id : Bor (List ℕ)
  pub time : ℕ
  pub store : MutBor (List ℕ)
  pub used : MutBor ℕ
  pub out : MutBor (List ℕ)
  pub written : MutBor ℕ
  pub returned : ℕ
  pub id' : Bor (List ℕ)
  pub store' : MutBor (List ℕ)
  pub used' : MutBor ℕ
  pub out' : MutBor (List ℕ)
  pub written' : MutBor ℕ
  pub kept : prack-get-pending-reads.Post κs (settings, (id, (time, (store, (used, (out, (written, tt))))))) returned (settings, (id', (time, (store', (used', (out', (written', tt)))))))

pub record PrackRemoveDialogCall : Type 0 where
  pub κs : Lfts 3
  pub settings : Settings
  pub id : Bor (List ℕ)
  pub store : MutBor (List ℕ)
  pub used : MutBor ℕ
  pub returned : ℕ
  pub id' : Bor (List ℕ)
  pub store' : MutBor (List ℕ)
  pub used' : MutBor ℕ
  pub kept : prack-remove-dialog-reads.Post κs (settings, (id, (store, (used, tt)))) returned (settings, (id', (store', (used', tt))))

pub record PrackRemovePrackedCall : Type 0 where
  pub κs : Lfts 3
  pub settings : Settings
  pub id : Bor (List ℕ)
  pub rseq : ℕ
  pub store : MutBor (List ℕ)
  pub used : MutBor ℕ
  pub returned : ℕ
  pub id' : Bor (List ℕ)
  pub store' : MutBor (List ℕ)
  pub used' : MutBor ℕ
  pub kept : prack-remove-pracked-reads.Post κs (settings, (id, (rseq, (store, (used, tt))))) returned (settings, (id', (rseq, (store', (used', tt)))))

pub record AddVerdictCall : Type 0 where
  pub κs : Lfts 2
  pub time : ℕ
  pub number : ℕ
  pub run : MutBor (List ℕ)
  pub used : MutBor ℕ
  pub returned : ℕ
  pub run' : MutBor (List ℕ)
  pub used' : MutBor ℕ
  pub kept : add-verdict-reads.Post κs (time, (number, (run, (used, tt)))) returned (time, (number, (run', (used', tt))))

pub record WorstMinuteCall : Type 0 where
  pub κs : Lfts 4
  pub run : Bor (List ℕ)
  pub used : ℕ
  pub refusals : MutBor ℕ
  pub found : MutBor ℕ
  pub start : MutBor ℕ
  pub returned : ℕ
  pub run' : Bor (List ℕ)
  pub refusals' : MutBor ℕ
  pub found' : MutBor ℕ
  pub start' : MutBor ℕ
  pub kept : worst-minute-reads.Post κs (run, (used, (refusals, (found, (start, tt))))) returned (run', (used, (refusals', (found', (start', tt)))))
