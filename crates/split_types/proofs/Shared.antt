-- The laws of definitions that the proofs of other crates cite: they cite them from here alone.
pub use Rattle.split_types.proofs.Lists.{slice_get-push, slice_get-push_old, slice_get-push_new, slice_get-append_left, slice_get-append_right, some_at, all_at, take_at_some, list_any_here, Found, find_some, find_none, find_there, any_weaker, none_in_filter, count_push, count_yes, count_no, count_none, none_counted, any_counted, counted_here, count_filter, count_filter_out, count_filter_less, filter_none, filter_one, filter_there, map_there}
pub use Rattle.split_types.proofs.SumLaws.{sum_by_both, sum_by_none, range_once}
pub use Rattle.split_types.proofs.Members.{has-append, has-flat_map, list_any-map_at}
pub use Rattle.split_types.proofs.Sets.{has-filter, has-range, has-pids, has-union_of, filter-same, filter-is_set, one-is_set, none-is_set, union-is_set, set-within, set-same, union-none, union-one, union-empty, union-flat, union-same, union-nest, rank-below}
pub use Rattle.split_types.proofs.ShareLaws.{rank_more, rank_none, rank_all, share_none, share_one, shares_over, shares_of_pids, shares_of_set, bill_of_one}
pub use Rattle.split_types.proofs.History.{event_at-new, event_at-stays, event_at-none, event_at-within, older-all, older-before, older-stays, older-next, length-older, length-older_at, slice_get-reverse}
pub use Rattle.split_types.proofs.OpenDirtyings.{open_at-below, open_at-more, is_open, open_is_there, open_are_open}
pub use Rattle.split_types.proofs.Parents.{parents_are_parents, parents-below}
pub use Rattle.split_types.proofs.Blame.{blame-stays, blame-new, blame-at, blame-older, has_at, blamed_are_blamed, blame_is_set, tag-stays, tag-new, tag-blame}
pub use Rattle.split_types.proofs.CausesLaws.{blames-stay, causes-one, causes-all, running_causes}
pub use Rattle.split_types.proofs.AcceptedLaws.{data_from, data_within, procs_most, call_is, calls_most, moves_most}
pub use Rattle.split_types.proofs.PageLaws.{page_at, length-pages_of, file_within, page_index_within, page_stands, page_index-apart}
pub use Rattle.split_types.proofs.CameLaws.{by_row, by_some, came, maker_is}
pub use Rattle.split_types.proofs.WaitingLaws.{number_here, none_numbered, same_number, queue_one, flight_one, nothing_left}
pub use Rattle.split_types.proofs.ReadyLaws.{ReadyParts, ready_parts, ready_from}
pub use Rattle.split_types.proofs.KnownLaws.{RequestOf, request_of, queued_of, flight_of, moves_served, moves_load, run_within, has_run, ends_within, longest, seek_most, maps_known, known}
pub use Rattle.split_types.proofs.RequestLaws.{picked_there, known_requests}
pub use Rattle.split_types.proofs.FileLaws.{live_of, files_are_in_order}
pub use Rattle.split_types.proofs.MapRuns.{IsFreeRun, free_is, least_there, least_passes}
pub use Rattle.split_types.proofs.PickLaws.{eligible, picks_first}
pub use Rattle.split_types.proofs.PutLaws.{bound_of, piece_is, PieceBytes, piece_bytes, put_in, put_in_legal, moved_most}
pub use Rattle.split_types.proofs.FreeLaws.{frees}
pub use Rattle.split_types.proofs.OpenLaws.{dirty_are_open}
pub use Rattle.split_types.proofs.CostLaws.{IsSent, sent_is, sends_show_costs}
pub use Rattle.split_types.proofs.TagLaws.{tags_are_payers, dirty_have_causes}
pub use Rattle.split_types.proofs.BillLaws.{parts_are_tags, bill_is, costs_are_borne, bills_conserve}
pub use Rattle.split_types.proofs.BoundLaws.{work, few_events, short, adds_most, stays_below}
pub use Rattle.split_types.proofs.StuckLaws.{never_stuck}
pub use Rattle.split_types.proofs.DrainLaws.{next_legal, turn_legal, turn_none, play_legal, drains_whole}
pub use Rattle.split_types.proofs.Lines.{lines_of_append}
pub use Rattle.split_types.proofs.Numerals.{numeral_is_decimal, signed_is_decimal, numeral_digit, numeral_more, numeral_injective, numeral_digits, Front, front}
pub use Rattle.split_types.proofs.EvictLaws.{evicts, placed_pages, placed_done, placed_evict}
pub use Rattle.split_types.proofs.KeptLists.{case_true, case_false, one_passes, in_filter, any_filter, any_pushed}
pub use Rattle.split_types.proofs.KeptLists.{any_push}
pub use Rattle.split_types.proofs.StandingLaws.{Standing, standing, left_by, stands_enter, stands_admit, stands_put}
pub use Rattle.split_types.proofs.StandingLaws.{stands_get, stands_ret, not_own}
pub use Rattle.split_types.proofs.NumberLaws.{all_done_well, Numbers, numbers, flying_there, idle_flight}
pub use Rattle.split_types.proofs.KeptLaws.{has_asked, IsComingAt, IsComing, IsHereAt, IsHere, IsKept, kept_held}
pub use Rattle.split_types.proofs.KeptLaws.{kept_new, not_by, kept_next}
pub use Rattle.split_types.proofs.LoadLaws.{loads, AsksAt, Asks, KeepsAsked, Asked, asked}
pub use Rattle.split_types.proofs.HeldLaws.{same_buf-is, same_buf-self, with_pages-old, among_pages, held_known}
pub use Rattle.split_types.proofs.HeldLaws.{reads_some, pages_are_known}
pub use Rattle.split_types.proofs.VictimLaws.{IsLeast, least_is, touched_before, same_touch, evictable_placed}
pub use Rattle.split_types.proofs.VictimLaws.{victims_are_oldest}
pub use Rattle.split_types.proofs.PinLaws.{WorksOn, works_one, Pins, none_loads}
pub use Rattle.split_types.proofs.PinLaws.{pins, pins_one}
pub use Rattle.split_types.proofs.VictimExists.{IsQuiet, quiet, not_crowded, HasVictim, victim_there}
pub use Rattle.split_types.proofs.CoverLaws.{MovesIn, IsCovered, among_parts, covered, writes_covered}
pub use Rattle.split_types.proofs.CoverLaws.{carried_covered, IsWritten, write_tests, moved, written, block_from, same_page, writes_other}
pub use Rattle.split_types.proofs.JournalAdds.{reads_moves, covers_moves}
pub use Rattle.split_types.proofs.JournalStepsAdds.{journal_known}
pub use Rattle.split_types.proofs.PromiseJournal.{commits_in_order, seals_in_order}
pub use Rattle.split_types.proofs.WriteLaws.{adding_new, adding_old, add_number, adding_kept, adding_there}
pub use Rattle.split_types.proofs.WriteLaws.{before_legal, left_run, writes_apart, IsDone, is_done, writes_stay_apart}
pub use Rattle.split_types.proofs.CacheLaws.{count_without, any_without, live_here, live_after, live_changes}
pub use Rattle.split_types.proofs.CacheLaws.{IsReadOf, read_page, IsWriteOf, written_page, IsAfter, among_at}
pub use Rattle.split_types.proofs.CacheLaws.{IsKnown, is_known, read_moved}
pub use Rattle.split_types.proofs.CacheLaws.{served_ready, ready_live, IsFlying, flying, takes_once}
pub use Rattle.split_types.proofs.LoadingLaws.{taken_ready, put_settled, idle_settled, IsRested, absent_unplaced}
pub use Rattle.split_types.proofs.LoadingLaws.{put_not_read, IsAbsentRead, read_absent, loading_rested, loading_settled}
pub use Rattle.split_types.proofs.ReadLaws.{done_reads, read_loading, read_once, loading_unplaced}
pub use Rattle.split_types.proofs.StartLaws.{IsPresetPage, start_data, start_page}
pub use Rattle.split_types.proofs.DiskLaws.{carries_page, clean_page, other_block, puts_fit, whole_page, whole_block}
pub use Rattle.split_types.proofs.DiskLaws.{clean_pages_are_on_disk}
pub use Rattle.split_types.proofs.CacheKept.{not_read, IsFree, victim_free, Kept, kept}
pub use Rattle.split_types.proofs.CacheChanges.{pages_change}
pub use Rattle.split_types.proofs.CacheKinds.{unsettled_are_held, loading_pages}
pub use Rattle.split_types.proofs.CachePins.{pin_loading, pin_there, pin_gone, found_read, waits_is, pin_stays, pin_freed}
pub use Rattle.split_types.proofs.CachePins.{pin_ret, pin_drop, pin_add, pin_done}
pub use Rattle.split_types.proofs.CacheKeeps.{pins_change}
pub use Rattle.split_types.proofs.CacheTouches.{there_placed, touches_change}
pub use Rattle.split_types.proofs.CacheCounts.{StandsIn, AreDistinct, some_changed, known_once, lengths_differ}
pub use Rattle.split_types.proofs.CacheCounts.{lengths_same, lengths_joined}
pub use Rattle.split_types.proofs.CacheRuns.{AreWritten, are_written}
pub use Rattle.split_types.proofs.CacheNumbers.{counts_change}
pub use Rattle.split_types.proofs.PlacedLaws.{IsFilePage, placed_file, victim_file}
pub use Rattle.split_types.proofs.SizeLaws.{pages_most, sum_most, got_most, size_most, disk_size_most, admitted_most}
pub use Rattle.split_types.proofs.SizeLaws.{PieceIn, get_in}
pub use Rattle.split_types.proofs.DirtyLaws.{any_page}
