-- One name under which every definition of specs/ unfolds, for the examples that are computed.
use Prim.Native.Nat.{ℕ}
use mathlib.Core.List.{flatten}
use Rattle.laws.specs.Tests.{within, every_below, every}
use Rattle.laws.specs.Lists.{keep, placed_from}
use Rattle.laws.specs.Search.{search_from, first_failing}
use Rattle.laws.specs.Sums.{sum_of, largest_of}
use Rattle.meaning.specs.Numbers.{class_count, factor, largest_factor, bound, largest_bound, rising_above, interval_allowed}
use Rattle.meaning.specs.Numbers.{cycle_allowed, classes_allowed, largest_bound_allowed, settings_allowed, class_allowed, longest_allowed}
use Rattle.meaning.specs.Numbers.{burst_allowed, period_allowed, connection_allowed}
use Rattle.meaning.specs.Envelope.{may_have, envelope, delayed, count_in, fits, full, came_back, refilled, conforms, charged}
use Rattle.meaning.specs.Envelope.{allowance_kept}
use Rattle.meaning.specs.Admission.{term, sum_at, in_the_way, eleven, twelve_range, twelve, condition_at, rate, rate_holds, finite_search}
use Rattle.meaning.specs.Queues.{turn_at, empty_queues, join_tail, turned, lowest_head, without_lowest_head, tag_zero_waits, rank}
use Rattle.meaning.specs.Box.{connections, no_connection, connection, stands, waiting, on_link, packets, rank_in, numbers_kept}
use Rattle.meaning.specs.Box.{in_their_queues, queues_kept, serials_rise, packet_kept, link_kept, count_kept, allowances_kept, sound}
use Rattle.meaning.specs.Answers.{refusal_number, failing_t, refusal, opened, admitted, offered, stepped, plan_read}
use Rattle.meaning.specs.Calls.{new_box, opening_answer, with_newcomer, search_answer, admission_answer, with_standing, after_admission}
use Rattle.meaning.specs.Calls.{allowance, offer_answer, charged_at, joined, after_offer}
use Rattle.meaning.specs.Step.{loaded, link_taken, queues_taken, sent_answer, link_sent, turn_due, step_answer, queues_stepped, moved}
use Rattle.meaning.specs.Step.{after_step}
use Rattle.meaning.specs.Plan.{word_at, words_from, words_of, bytes_of_word, sum_words, header_of, counts_allowed, factor_at, connection_at}
use Rattle.meaning.specs.Plan.{arrival_at, table, contents_of, size_wrong, sum_wrong, layout_wrong, never_falling_from, slots_wrong}
use Rattle.meaning.specs.Plan.{reading_answer}
use Rattle.meaning.specs.Run.{line_of_admission, admit_all, number_of, place_of, offer_all, departures, finished, phase, slots}
use Rattle.meaning.specs.Run.{slots_enough, open_run, plan_run, read_run, run}
use Rattle.meaning.specs.Lines.{ascii, digit, digits_by, decimal, numbers_text, line_of, line_text, text_of, run_text}

-- A number whose only use is that every definition of specs/ unfolds under its name.
unfoldable pub definitions : ℕ
unfolding flatten within every_below every keep placed_from search_from first_failing sum_of largest_of class_count factor largest_factor bound
    largest_bound rising_above interval_allowed cycle_allowed classes_allowed largest_bound_allowed settings_allowed class_allowed
    longest_allowed burst_allowed period_allowed connection_allowed may_have envelope delayed count_in fits full came_back refilled
    conforms charged allowance_kept term sum_at in_the_way eleven twelve_range twelve condition_at rate rate_holds finite_search turn_at
    empty_queues join_tail turned lowest_head without_lowest_head tag_zero_waits rank connections no_connection connection stands waiting
    on_link packets rank_in numbers_kept in_their_queues queues_kept serials_rise packet_kept link_kept count_kept allowances_kept sound
    refusal_number failing_t refusal opened admitted offered stepped plan_read new_box opening_answer with_newcomer search_answer
    admission_answer with_standing after_admission allowance offer_answer charged_at joined after_offer loaded link_taken queues_taken
    sent_answer link_sent turn_due step_answer queues_stepped moved after_step word_at words_from words_of bytes_of_word sum_words header_of
    counts_allowed factor_at connection_at arrival_at table contents_of size_wrong sum_wrong layout_wrong never_falling_from slots_wrong
    reading_answer line_of_admission admit_all number_of place_of offer_all departures finished phase slots slots_enough open_run plan_run
    read_run run ascii digit digits_by decimal numbers_text line_of line_text text_of run_text
definitions = 0
