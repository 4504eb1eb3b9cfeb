-- How a feed is read: lines ahead, events one by one, and where the reading stops.
pub mod Stops
pub mod Takes
pub mod FeedAhead
pub mod WhatWasRead
pub mod FeedReading
